-- What the lines of a panel's text say, but for those of its slots: each part of the record, from the words of its line.
use Rattle.std.specs.Prelude.{ℕ, Bool, true, false, cond, List, eqb, None, Option, Some}
use Rattle.page.specs.Words.{text}
use Rattle.text_words.specs.Words.{◌word◌, last_word, same}
use Rattle.text_kinds.specs.Kinds.{number_of, flag_of, letter_of}
use Rattle.shared_record.specs.declared.Version.{Version}
use Rattle.standard_record.specs.declared.Week.{Week}
use Rattle.standard_record.specs.declared.Week.TheVariants.{Made, ModelYear}
use Rattle.standard_record.specs.declared.Product.{Product}
use Rattle.standard_record.specs.declared.Depth.{Depth}
use Rattle.standard_record.specs.declared.VideoInput.{VideoInput}
use Rattle.standard_record.specs.declared.VideoInput.TheVariants.{Analog, Digital, Interface}
use Rattle.standard_record.specs.declared.ImageSize.{ImageSize}
use Rattle.standard_record.specs.declared.ImageSize.TheVariants as Size
use Rattle.standard_record.specs.declared.DisplayType.{DisplayType}
use Rattle.standard_record.specs.declared.DisplayType.TheVariants.{Monochrome, RGBColor, OtherColor, Undefined}
use Rattle.standard_record.specs.declared.Kind.{Kind}
use Rattle.standard_record.specs.declared.Kind.TheVariants.{Typed, Encodings}
use Rattle.standard_record.specs.declared.Features.{Features}
use Rattle.standard_record.specs.declared.Chromaticity.{Chromaticity}
use Rattle.standard_record.specs.declared.Chromaticities.{Chromaticities}

-- ---- a number of 8, 16 or 32 bits, and a flag: the word at k

abbrev pub byte_at : List ℕ → ℕ → ℕ
byte_at l k = number_of 255 (l word k)

abbrev pub half_at : List ℕ → ℕ → ℕ
half_at l k = number_of 65535 (l word k)

abbrev pub word_at : List ℕ → ℕ → ℕ
word_at l k = number_of 4294967295 (l word k)

abbrev pub flag_at : List ℕ → ℕ → Bool
flag_at l k = flag_of (l word k)

abbrev pub is_at : List ℕ → ℕ → List ℕ → Bool
is_at l k w = same (l word k) w

-- ---- product and version

unfoldable pub week_of : List ℕ → Week
week_of l = cond (is_at l 6 (text "model")) ModelYear (Made (byte_at l 6))

unfoldable pub product_of : List ℕ → Product
product_of l = record {
  maker = record { 0 = letter_of (l word 1); 1 = letter_of (l word 2); 2 = letter_of (l word 3) };
  code = half_at l 4;
  serial = word_at l 5;
  week = week_of l;
  year = half_at l 7;
}

unfoldable pub version_of : List ℕ → Version
version_of l = record { version = byte_at l 1; revision = byte_at l 2 }

-- ---- display

unfoldable pub depth_of : List ℕ → Depth
depth_of l =
    cond (is_at l 1 (text "undefined")) Depth.Undefined
    (cond (is_at l 1 (text "reserved")) Depth.Reserved
    (Depth.Bits (byte_at l 1)))

unfoldable pub analog_of : List ℕ → VideoInput
analog_of l = Analog (byte_at l 1) (flag_at l 2) (record { serrated = flag_at l 3; green = flag_at l 4; composite = flag_at l 5; separate = flag_at l 6 })

-- one word behind `digital` is a flag, two are depth and code
unfoldable pub input_of : List ℕ → VideoInput
input_of l =
    cond (is_at l 0 (text "analog")) (analog_of l)
    (cond (last_word l 1) (Digital (flag_at l 1)) (Interface (depth_of l) (byte_at l 2)))

unfoldable pub size_of : List ℕ → ImageSize
size_of l =
    cond (is_at l 1 (text "none")) Size.None
    (cond (is_at l 1 (text "ratio")) (Size.Ratio (record { width = half_at l 2; height = half_at l 3 }))
    (Size.Some (record { width = half_at l 1; height = half_at l 2 })))

-- the word at k, in this line and in that of a white point
unfoldable pub gamma_at : List ℕ → ℕ → Option ℕ
gamma_at l k = cond (is_at l k (text "none")) None (Some (half_at l k))

-- by its number
unfoldable pub type_of : ℕ → DisplayType
type_of n = cond (eqb n 0) Monochrome (cond (eqb n 1) RGBColor (cond (eqb n 2) OtherColor Undefined))

unfoldable pub kind_of : List ℕ → Kind
kind_of l =
    cond (is_at l 4 (text "e0")) (Encodings false false)
    (cond (is_at l 4 (text "e1")) (Encodings true false)
    (cond (is_at l 4 (text "e2")) (Encodings false true)
    (cond (is_at l 4 (text "e3")) (Encodings true true)
    (Typed (type_of (byte_at l 4))))))

unfoldable pub features_of : List ℕ → Features
features_of l = record {
  standby = flag_at l 1;
  suspend = flag_at l 2;
  lowpower = flag_at l 3;
  kind = kind_of l;
  srgb = flag_at l 5;
  preferred = flag_at l 6;
  gtf = flag_at l 7;
}

-- ---- colour

-- the words at j and k
abbrev pub place_at : List ℕ → ℕ → ℕ → Chromaticity
place_at l j k = record { x = half_at l j; y = half_at l k }

unfoldable pub chroma_of : List ℕ → Chromaticities
chroma_of l = record { red = place_at l 1 2; green = place_at l 3 4; blue = place_at l 5 6; white = place_at l 7 8 }
