-- The fields of one byte or two: maker, week, video input, image size, features. Digits that the reading drops are 0. σ is the structure: it decides what the
-- bytes are read as, and not which they are.
use Rattle.std.specs.Prelude.{ℕ, ◌+◌, ◌*◌, ◌/◌, ◌%◌, ◌≡◌, Bool, cond, eqb}
use Rattle.standard_record.specs.declared.Maker.{Maker}
use Rattle.standard_record.specs.declared.Week.{Week}
use Rattle.standard_record.specs.declared.Week.TheVariants.{Made, ModelYear}
use Rattle.standard_record.specs.declared.Depth.{Depth}
use Rattle.standard_record.specs.declared.VideoInput.{VideoInput}
use Rattle.standard_record.specs.declared.VideoInput.TheVariants.{Analog, Digital, Interface}
use Rattle.standard_record.specs.declared.ImageSize.{ImageSize}
use Rattle.standard_record.specs.declared.ImageSize.TheVariants as Image
use Rattle.standard_record.specs.declared.DisplayType.{DisplayType}
use Rattle.standard_record.specs.declared.DisplayType.TheVariants.{Monochrome, RGBColor, OtherColor, Undefined}
use Rattle.standard_record.specs.declared.Kind.{Kind}
use Rattle.standard_record.specs.declared.Kind.TheVariants.{Typed, Encodings}
use Rattle.standard_record.specs.declared.Features.{Features}
use Rattle.standard_parts.specs.Head.{maker_of, week_of, input_of, image_of, features_of}
use Rattle.standard_parts.specs.declared.Structure.{Structure}
use Rattle.write_leaf.specs.Bytes.{digit, low}
use Rattle.write_leaf.specs.Leaf.{Writes, WritesByte, Two, BothBytes}

-- ---- the maker's letters: the last five digits of each, over two bytes, the high one first

abbrev pub maker_word : Maker → ℕ
maker_word m = m.0 % 32 * 1024 + m.1 % 32 * 32 + m.2 % 32

abbrev pub maker_bytes : Maker → Two
maker_bytes m = (low (maker_word m / 256), low (maker_word m))

abbrev pub WritesMaker : Maker → Bool → Two → Type 0
WritesMaker = Writes BothBytes (λ (s : Two) m. maker_of s.0 s.1 ≡ m) maker_bytes

-- ---- the week, or ff for a model year

abbrev pub week_byte : Week → ℕ
week_byte (Made week) = week
week_byte ModelYear = 0xff

abbrev pub WritesWeek : Structure → Week → Bool → ℕ → Type 0
WritesWeek σ = WritesByte (week_of σ) week_byte

-- ---- video input

-- 6, 8, .. 16 bits are 1 to 6: half of them less 2, modulo 8
abbrev pub depth_code : Depth → ℕ
depth_code Depth.Undefined = 0
depth_code (Depth.Bits n) = (n / 2 + 6) % 8
depth_code Depth.Reserved = 7

abbrev pub input_byte : VideoInput → ℕ
input_byte (Digital dfp) = 128 + digit dfp
input_byte (Interface depth code) = 128 + depth_code depth * 16 + code % 16
input_byte (Analog level setup sync) =
    level % 4 * 32 + digit setup * 16 + digit sync.serrated * 8 + digit sync.green * 4 + digit sync.composite * 2 + digit sync.separate

abbrev pub WritesInput : Structure → VideoInput → Bool → ℕ → Type 0
WritesInput σ = WritesByte (input_of σ) input_byte

-- ---- image size: centimetres; a missing size is 0 both ways; a ratio is one number less 99, modulo 256, and 100:100 a width

abbrev pub image_bytes : ImageSize → Two
image_bytes Image.None = (0, 0)
image_bytes (Image.Some s) = (low (s.width / 10), low (s.height / 10))
image_bytes (Image.Ratio r) = cond (eqb r.height 100) (low (r.width + 157), 0) (0, low (r.height + 157))

abbrev pub WritesImage : Structure → ImageSize → Bool → Two → Type 0
WritesImage σ = Writes BothBytes (λ (s : Two) z. image_of σ s.0 s.1 ≡ z) image_bytes

-- ---- features

abbrev pub type_code : DisplayType → ℕ
type_code Monochrome = 0
type_code RGBColor = 1
type_code OtherColor = 2
type_code Undefined = 3

abbrev pub kind_code : Kind → ℕ
kind_code (Typed t) = type_code t
kind_code (Encodings ycrcb444 ycrcb422) = digit ycrcb444 + 2 * digit ycrcb422

abbrev pub features_byte : Features → ℕ
features_byte f =
    digit f.standby * 128 + digit f.suspend * 64 + digit f.lowpower * 32 + kind_code f.kind * 8
    + digit f.srgb * 4 + digit f.preferred * 2 + digit f.gtf

-- beside this input
abbrev pub WritesFeatures : VideoInput → Features → Bool → ℕ → Type 0
WritesFeatures input = WritesByte (features_of input) features_byte
