-- The 18 bytes of a detailed timing. Digits that the reading drops are 0.
use Rattle.std.specs.Prelude.{ℕ, ◌+◌, ◌*◌, ◌/◌, ◌%◌, ◌<◌, ◌≡◌, Bool, false, cond, List, [], ◌∷◌, eqb, Some}
use Rattle.timing.specs.declared.Across.{Across}
use Rattle.timing.specs.declared.Down.{Down}
use Rattle.timing.specs.declared.Size.{Size}
use Rattle.timing.specs.declared.Border.{Border}
use Rattle.timing.specs.declared.SyncPolarity.{SyncPolarity}
use Rattle.timing.specs.declared.SyncPolarity.TheVariants.{Positive, Negative}
use Rattle.timing.specs.declared.StereoType.{StereoType}
use Rattle.timing.specs.declared.StereoType.TheVariants as Stereo
use Rattle.standard_record.specs.declared.SyncLine.{SyncLine}
use Rattle.standard_record.specs.declared.SyncLine.TheVariants.{Green, RGB}
use Rattle.standard_record.specs.declared.Sync.{Sync}
use Rattle.standard_record.specs.declared.Sync.TheVariants.{AnalogComposite, BipolarAnalogComposite, DigitalComposite, DigitalSeparate}
use Rattle.standard_record.specs.declared.DetailedTiming.{DetailedTiming}
use Rattle.standard_timing.specs.Timing.{clock_in, timing_in}
use Rattle.write_leaf.specs.Leaf.{Writes}
use Rattle.write_leaf.specs.Bytes.{Bytes, digit, low, nibbles, uppers}

abbrev pub stereo_code : StereoType → ℕ
stereo_code Stereo.None = 0
stereo_code Stereo.SequentialRightSync = 0x20
stereo_code Stereo.SequentialLeftSync = 0x40
stereo_code Stereo.InterleavedLinesRightEven = 0x21
stereo_code Stereo.InterleavedLinesLeftEven = 0x41
stereo_code Stereo.Interleaved4Way = 0x60
stereo_code Stereo.SideBySide = 0x61

abbrev pub line_code : SyncLine → ℕ
line_code Green = 0
line_code RGB = 2

-- the horizontal one, or the only one; the vertical one counts twice as much
abbrev pub polarity_code : SyncPolarity → ℕ
polarity_code Negative = 0
polarity_code Positive = 2

abbrev pub sync_code : Sync → ℕ
sync_code (AnalogComposite serrated line) = digit serrated * 4 + line_code line
sync_code (BipolarAnalogComposite serrated line) = 0x08 + digit serrated * 4 + line_code line
sync_code (DigitalComposite serrated polarity) = 0x10 + digit serrated * 4 + polarity_code polarity
sync_code (DigitalSeparate horizontal vertical) = 0x18 + polarity_code vertical * 2 + polarity_code horizontal

abbrev pub last_of : Bool → StereoType → Sync → ℕ
last_of interlaced stereo sync = digit interlaced * 128 + stereo_code stereo + sync_code sync

-- the digits of the porches and syncs above those in bytes 8, 9 and 10, two of each
abbrev pub porch_code : Across → Down → ℕ
porch_code h v = h.front.0 / 256 % 4 * 64 + h.sync.0 / 256 % 4 * 16 + v.front.0 / 16 % 4 * 4 + v.sync.0 / 16 % 4

-- what a porch, a sync and a porch make
abbrev pub across_blank : Across → ℕ
across_blank h = h.front.0 + h.sync.0 + h.back.0

abbrev pub down_blank : Down → ℕ
down_blank v = v.front.0 + v.sync.0 + v.back.0

unfoldable pub timing_bytes : DetailedTiming → List ℕ
timing_bytes d =
    low (d.clock / 10000) ∷ low (d.clock / 10000 / 256)
    ∷ low d.across.active.0 ∷ low (across_blank d.across) ∷ uppers d.across.active.0 (across_blank d.across)
    ∷ low d.down.active.0 ∷ low (down_blank d.down) ∷ uppers d.down.active.0 (down_blank d.down)
    ∷ low d.across.front.0 ∷ low d.across.sync.0 ∷ nibbles d.down.front.0 d.down.sync.0 ∷ porch_code d.across d.down
    ∷ low d.size.width ∷ low d.size.height ∷ uppers d.size.width d.size.height
    ∷ low d.border.across.0 ∷ low d.border.down.0 ∷ last_of d.interlaced d.stereo d.sync ∷ []

-- bytes with a clock that are read as d
pub record Reads (t : List ℕ) (d : DetailedTiming) : Type 0 where
  pub clock : 0 < clock_in t
  pub is : timing_in t ≡ Some d

abbrev pub WritesTiming : DetailedTiming → Bool → List ℕ → Type 0
WritesTiming = Writes Bytes Reads timing_bytes

-- ---- the test that the code makes: the clock is there, and no field has more than its digits

abbrev pub across_excess : Across → ℕ
across_excess h = h.active.0 / 4096 + across_blank h / 4096 + h.front.0 / 1024 + h.sync.0 / 1024

abbrev pub down_excess : Down → ℕ
down_excess v = v.active.0 / 4096 + down_blank v / 4096 + v.front.0 / 64 + v.sync.0 / 64

abbrev pub edge_excess : Size → Border → ℕ
edge_excess s b = s.width / 4096 + s.height / 4096 + b.across.0 / 256 + b.down.0 / 256

abbrev pub excess : DetailedTiming → ℕ
excess d = d.clock % 10000 + d.clock / 655360000 + across_excess d.across + down_excess d.down + edge_excess d.size d.border

abbrev pub fits_timing : DetailedTiming → Bool
fits_timing d = cond (eqb d.clock 0) false (eqb (excess d) 0)
