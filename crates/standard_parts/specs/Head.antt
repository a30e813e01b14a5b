-- The first fields of a block: maker, week, video input, image size, gamma, features. Bytes are named by their place in the block, σ is the structure.
use Rattle.std.specs.Prelude.{ℕ, ◌+◌, ◌*◌, Bool, true, false, ◌&&◌, cond, eqb, leb, None, Option, Some}
use Rattle.bits.specs.Fields.{digits, bit, by_code}
use Rattle.standard_record.specs.declared.Maker.{Maker}
use Rattle.standard_record.specs.declared.Week.{Week}
use Rattle.standard_record.specs.declared.Week.TheVariants.{Made, ModelYear}
use Rattle.standard_record.specs.declared.Depth.{Depth}
use Rattle.standard_record.specs.declared.VideoInput.{VideoInput}
use Rattle.standard_record.specs.declared.VideoInput.TheVariants.{Analog, Digital, Interface}
use Rattle.standard_record.specs.declared.ImageSize.{ImageSize}
use Rattle.standard_record.specs.declared.ImageSize.TheVariants as Image
use Rattle.standard_record.specs.declared.DisplayType.{DisplayType}
use Rattle.standard_record.specs.declared.DisplayType.TheVariants.{Monochrome, RGBColor, OtherColor, Undefined}
use Rattle.standard_record.specs.declared.Kind.{Kind}
use Rattle.standard_record.specs.declared.Kind.TheVariants.{Typed, Encodings}
use Rattle.standard_record.specs.declared.Features.{Features}
use Rattle.standard_parts.specs.Structure.{since4}
use Rattle.standard_parts.specs.declared.Structure.{Structure}

-- 1 to 26 are A to Z
abbrev pub letter_of : ℕ → ℕ
letter_of code = cond (leb 1 code) (cond (leb code 26) (64 + code) 0) 0

-- three codes of five digits each, in a word whose high byte comes first
abbrev pub maker_of : ℕ → ℕ → Maker
maker_of b8 b9 = record {
  0 = letter_of (digits (b9 + 256 * b8) 10 5);
  1 = letter_of (digits (b9 + 256 * b8) 5 5);
  2 = letter_of (digits (b9 + 256 * b8) 0 5);
}

-- from revision 4 on ff says that the year is the model's
abbrev pub week_of : Structure → ℕ → Week
week_of σ b16 = cond (since4 σ && eqb b16 0xff) ModelYear (Made b16)

-- 1 to 6 are 6, 8, 10, 12, 14 and 16 bits
abbrev pub depth_of : ℕ → Depth
depth_of code = cond (eqb code 0) Depth.Undefined (cond (eqb code 7) Depth.Reserved (Depth.Bits (4 + 2 * code)))

abbrev pub digital_of : Structure → ℕ → VideoInput
digital_of σ b20 = cond (since4 σ) (Interface (depth_of (digits b20 4 3)) (digits b20 0 4)) (Digital (bit b20 0))

unfoldable pub input_of : Structure → ℕ → VideoInput
input_of σ b20 =
    cond (bit b20 7) (digital_of σ b20)
    (Analog (digits b20 5 2) (bit b20 4)
    (record { serrated = bit b20 3; green = bit b20 2; composite = bit b20 1; separate = bit b20 0 }))

-- one byte without the other is a ratio from revision 4 on
abbrev pub ratio_alone : Structure → ℕ → ℕ → ImageSize
ratio_alone σ w h = cond (since4 σ) (Image.Ratio (record { width = w; height = h })) Image.None

-- stored in centimetres; none where both are 0, and below revision 4 where one is
unfoldable pub image_of : Structure → ℕ → ℕ → ImageSize
image_of σ b21 b22 =
    cond (eqb b21 0) (cond (eqb b22 0) Image.None (ratio_alone σ 100 (b22 + 99)))
    (cond (eqb b22 0) (ratio_alone σ (b21 + 99) 100) (Image.Some (record { width = b21 * 10; height = b22 * 10 })))

unfoldable pub gamma_of : ℕ → Option ℕ
gamma_of b = cond (eqb b 0xff) None (Some (b + 100))

abbrev pub type_of : ℕ → DisplayType
type_of code = by_code code Monochrome RGBColor OtherColor Undefined

-- whether an input tells its interface
abbrev pub tells_interface : VideoInput → Bool
tells_interface (Analog level setup sync) = false
tells_interface (Digital dfp) = false
tells_interface (Interface depth code) = true

-- beside such an input the code is that of the encodings
abbrev pub kind_of : Bool → ℕ → Kind
kind_of encoded code = cond encoded (Encodings (bit code 0) (bit code 1)) (Typed (type_of code))

unfoldable pub features_of : VideoInput → ℕ → Features
features_of input b24 = record {
  standby = bit b24 7;
  suspend = bit b24 6;
  lowpower = bit b24 5;
  kind = kind_of (tells_interface input) (digits b24 3 2);
  srgb = bit b24 2;
  preferred = bit b24 1;
  gtf = bit b24 0;
}
