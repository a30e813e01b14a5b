-- The timing rule: t is 18 bytes of a slot, or of another block that holds timings.
use Rattle.std.specs.Prelude.{ℕ, ◌+◌, ◌*◌, Bool, true, false, List, Option, Some, None}
use Rattle.bits.specs.Fields.{digits, bit, by_code}
use Rattle.bits.specs.Bytes.{◌!◌}
use Rattle.timing.specs.Axis.{across_of, down_of}
use Rattle.timing.specs.Rest.{clock_of, size_of, border_of, stereo_of, polarity_of}
use Rattle.timing.specs.declared.Across.{Across}
use Rattle.timing.specs.declared.Down.{Down}
use Rattle.timing.specs.declared.Size.{Size}
use Rattle.timing.specs.declared.Border.{Border}
use Rattle.timing.specs.declared.StereoType.{StereoType}
use Rattle.standard_record.specs.declared.SyncLine.{SyncLine}
use Rattle.standard_record.specs.declared.SyncLine.TheVariants.{Green, RGB}
use Rattle.standard_record.specs.declared.Sync.{Sync}
use Rattle.standard_record.specs.declared.Sync.TheVariants.{AnalogComposite, BipolarAnalogComposite, DigitalComposite, DigitalSeparate}
use Rattle.standard_record.specs.declared.DetailedTiming.{DetailedTiming}

-- ---- sync, by digits 4 and 3, and digits 2 and 1 of the last byte

abbrev pub line_of : Bool → SyncLine
line_of true = RGB
line_of false = Green

abbrev pub sync_by : ℕ → Bool → Bool → Sync
sync_by code two one =
    by_code code
    (AnalogComposite two (line_of one))
    (BipolarAnalogComposite two (line_of one))
    (DigitalComposite two (polarity_of one))
    (DigitalSeparate (polarity_of one) (polarity_of two))

abbrev pub sync_of : ℕ → Sync
sync_of b17 = sync_by (digits b17 3 2) (bit b17 2) (bit b17 1)

-- ---- the fields by their places

abbrev pub clock_in : List ℕ → ℕ
clock_in t = t ! 0 + 256 * t ! 1

abbrev pub across_in : List ℕ → Option Across
across_in t = across_of (t ! 2) (t ! 3) (t ! 4) (t ! 8) (t ! 9) (t ! 11)

abbrev pub down_in : List ℕ → Option Down
down_in t = down_of (t ! 5) (t ! 6) (t ! 7) (t ! 10) (t ! 11)

abbrev pub size_in : List ℕ → Size
size_in t = size_of (t ! 12) (t ! 13) (t ! 14)

abbrev pub border_in : List ℕ → Border
border_in t = border_of (t ! 15) (t ! 16)

-- ---- the timing

-- both axes fit, or there is none
abbrev pub timed_by : Option Across → Option Down → ℕ → Size → Border → Bool → StereoType → Sync → Option DetailedTiming
timed_by None v clock size border interlaced stereo sync = None
timed_by (Some h) None clock size border interlaced stereo sync = None
timed_by (Some h) (Some v) clock size border interlaced stereo sync =
    Some (record { clock = clock; across = h; down = v; size = size; border = border; interlaced = interlaced; stereo = stereo; sync = sync })

unfoldable pub timing_in : List ℕ → Option DetailedTiming
timing_in t =
    timed_by (across_in t) (down_in t) (clock_of (clock_in t)) (size_in t) (border_in t) (bit (t ! 17) 7) (stereo_of (t ! 17)) (sync_of (t ! 17))
