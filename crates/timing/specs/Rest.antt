-- The other fields of a detailed timing: clock, size, border, stereo and polarity.
use Rattle.std.specs.Prelude.{ℕ, ◌+◌, ◌*◌, Bool, true, false}
use Rattle.bits.specs.Fields.{digits, bit}
use Rattle.timing.specs.Axis.{pixels, lines}
use Rattle.timing.specs.declared.Size.{Size}
use Rattle.timing.specs.declared.Border.{Border}
use Rattle.timing.specs.declared.SyncPolarity.{SyncPolarity}
use Rattle.timing.specs.declared.SyncPolarity.TheVariants.{Positive, Negative}
use Rattle.timing.specs.declared.StereoType.{StereoType}
use Rattle.timing.specs.declared.StereoType.TheVariants as Stereo

abbrev pub clock_of : ℕ → ℕ
clock_of stored = stored * 10000

abbrev pub size_of : ℕ → ℕ → ℕ → Size
size_of b12 b13 b14 = record { width = b12 + 256 * digits b14 4 4; height = b13 + 256 * digits b14 0 4 }

abbrev pub border_of : ℕ → ℕ → Border
border_of b15 b16 = record { across = pixels b15; down = lines b16 }

abbrev pub polarity_of : Bool → SyncPolarity
polarity_of true = Positive
polarity_of false = Negative

-- by digits 6, 5 and 0
abbrev pub stereo_by : Bool → Bool → Bool → StereoType
stereo_by false false z = Stereo.None
stereo_by false true false = Stereo.SequentialRightSync
stereo_by true false false = Stereo.SequentialLeftSync
stereo_by false true true = Stereo.InterleavedLinesRightEven
stereo_by true false true = Stereo.InterleavedLinesLeftEven
stereo_by true true false = Stereo.Interleaved4Way
stereo_by true true true = Stereo.SideBySide

abbrev pub stereo_of : ℕ → StereoType
stereo_of b = stereo_by (bit b 6) (bit b 5) (bit b 0)
