-- The first 38 bytes of a block: header, product, version, display, colours and the established flags.
use Rattle.std.specs.Prelude.{ℕ, ◌+◌, ◌*◌, ◌/◌, ◌≡◌, Bool, true, List, [], ◌∷◌, eqb}
use Rattle.bits.specs.Bytes.{◌!◌}
use Rattle.shared_record.specs.declared.Version.{Version}
use Rattle.standard_record.specs.declared.Product.{Product}
use Rattle.standard_record.specs.declared.Display.{Display}
use Rattle.standard_record.specs.declared.Chromaticities.{Chromaticities}
use Rattle.standard_parts.specs.Timings.{flags_of}
use Rattle.standard_parts.specs.declared.Structure.{Structure}
use Rattle.standard_head.specs.Head.{product_in, version_in, display_in, colors_in}
use Rattle.standard_verdict.specs.Verdict.{is_header}
use Rattle.write_leaf.specs.Bytes.{Bytes, digit, low}
use Rattle.write_leaf.specs.Leaf.{Writes}
use Rattle.write_parts.specs.Point.{place_low, gamma_byte}
use Rattle.write_head.specs.Head.{maker_bytes, week_byte, input_byte, image_bytes, features_byte}
use Rattle.write_head.specs.Tests.{week_fits, between}
use Rattle.write_head.specs.Flags.{flag_bytes}
use Rattle.write_head.specs.declared.NumberBytes.{NumberBytes}
use Rattle.write_head.specs.declared.ColorBytes.{ColorBytes}

-- what the front of a record shows
pub record Front : Type 0 where
  pub product : Product
  pub version : Version
  pub display : Display
  pub basic : Chromaticities
  pub established : List ℕ

-- here and below, `rest` is what stands behind
abbrev pub header_bytes : List ℕ → List ℕ
header_bytes rest = 0x00 ∷ 0xff ∷ 0xff ∷ 0xff ∷ 0xff ∷ 0xff ∷ 0xff ∷ 0x00 ∷ rest

-- the year is less 1990, modulo 256
abbrev pub number_bytes : Product → List ℕ → List ℕ
number_bytes p rest =
    low p.code ∷ low (p.code / 256)
    ∷ low p.serial ∷ low (p.serial / 256) ∷ low (p.serial / 65536) ∷ low (p.serial / 16777216)
    ∷ week_byte p.week ∷ low (p.year + 58) ∷ rest

abbrev pub product_bytes : Product → List ℕ → List ℕ
product_bytes p rest = (maker_bytes p.maker).0 ∷ (maker_bytes p.maker).1 ∷ number_bytes p rest

abbrev pub display_bytes : Display → List ℕ → List ℕ
display_bytes d rest =
    input_byte d.input ∷ (image_bytes d.size).0 ∷ (image_bytes d.size).1 ∷ gamma_byte d.gamma ∷ features_byte d.features ∷ rest

-- the last two digits of each, of two colours in a byte; then the upper eight of each
abbrev pub color_bytes : Chromaticities → List ℕ → List ℕ
color_bytes c rest =
    (place_low c.red.x c.red.y * 16 + place_low c.green.x c.green.y)
    ∷ (place_low c.blue.x c.blue.y * 16 + place_low c.white.x c.white.y)
    ∷ low (c.red.x / 4) ∷ low (c.red.y / 4) ∷ low (c.green.x / 4) ∷ low (c.green.y / 4)
    ∷ low (c.blue.x / 4) ∷ low (c.blue.y / 4) ∷ low (c.white.x / 4) ∷ low (c.white.y / 4) ∷ rest

unfoldable pub front_bytes : Front → List ℕ
front_bytes f =
    let flags = flag_bytes f.established in
    header_bytes
    (product_bytes f.product
    (f.version.version ∷ f.version.revision
    ∷ display_bytes f.display (color_bytes f.basic (flags.0 ∷ flags.1 ∷ flags.2 ∷ []))))

-- a block s whose front is accepted and shows f
pub record ReadsFront (s : List ℕ) (f : Front) : Type 0 where
  pub header : is_header s ≡ true
  pub one : s ! 18 ≡ 1
  pub product : product_in s ≡ f.product
  pub version : version_in s ≡ f.version
  pub display : display_in s ≡ f.display
  pub basic : colors_in s ≡ f.basic
  pub established : flags_of (s ! 35) (s ! 36) (s ! 37) ≡ f.established

abbrev pub WritesFront : Front → Bool → List ℕ → Type 0
WritesFront = Writes Bytes ReadsFront front_bytes

-- ---- what the functions of the parts ensure: the test, and the bytes before any others

abbrev pub year_fits : ℕ → Bool
year_fits = between 1990 2245

abbrev pub numbers_fit : Structure → Product → Bool
numbers_fit σ p = eqb (digit (year_fits p.year) + digit (week_fits σ p.week)) 2

pub record MakesNumbers (σ : Structure) (p : Product) (r : NumberBytes) : Type 0 where
  pub fits : r.fits ≡ numbers_fit σ p
  pub bytes : (rest : List ℕ) → r.b10 ∷ r.b11 ∷ r.b12 ∷ r.b13 ∷ r.b14 ∷ r.b15 ∷ r.b16 ∷ r.b17 ∷ rest ≡ number_bytes p rest

-- 0 exactly where each is below 1024
abbrev pub color_excess : Chromaticities → ℕ
color_excess c =
    c.red.x / 1024 + c.red.y / 1024 + c.green.x / 1024 + c.green.y / 1024
    + c.blue.x / 1024 + c.blue.y / 1024 + c.white.x / 1024 + c.white.y / 1024

pub record MakesColors (c : Chromaticities) (r : ColorBytes) : Type 0 where
  pub fits : r.fits ≡ eqb (color_excess c) 0
  pub bytes : (rest : List ℕ)
      → r.b25 ∷ r.b26 ∷ r.b27 ∷ r.b28 ∷ r.b29 ∷ r.b30 ∷ r.b31 ∷ r.b32 ∷ r.b33 ∷ r.b34 ∷ rest ≡ color_bytes c rest

-- all nine parts fit
abbrev pub all_fit : Bool → Bool → Bool → Bool → Bool → Bool → Bool → Bool → Bool → Bool
all_fit a b c d e f g h i = eqb (digit a + digit b + digit c + digit d + digit e + digit f + digit g + digit h + digit i) 9
