-- The five bytes of a white point, with its gamma's.
use Rattle.std.specs.Prelude.{ℕ, ◌+◌, ◌*◌, ◌/◌, ◌%◌, ◌≡◌, Bool, true, List, [], ◌∷◌, eqb, leb, None, Option, Some}
use Rattle.standard_record.specs.declared.WhitePoint.{WhitePoint}
use Rattle.standard_parts.specs.Head.{gamma_of}
use Rattle.standard_parts.specs.Color.{point_of}
use Rattle.bits.specs.Bytes.{◌!◌}
use Rattle.write_leaf.specs.Bytes.{Bytes, digit, low}
use Rattle.write_leaf.specs.Leaf.{Writes, WritesByte}

-- ---- gamma

-- less 100, modulo 256
abbrev pub gamma_byte : Option ℕ → ℕ
gamma_byte None = 0xff
gamma_byte (Some g) = (g + 156) % 256

abbrev pub gamma_fits : Option ℕ → Bool
gamma_fits None = true
gamma_fits (Some g) = eqb (digit (leb 100 g) + digit (leb g 354)) 2

abbrev pub WritesGamma : Option ℕ → Bool → ℕ → Type 0
WritesGamma = WritesByte gamma_of gamma_byte

-- ---- the point

-- the last two digits of x over those of y
abbrev pub place_low : ℕ → ℕ → ℕ
place_low x y = x % 4 * 4 + y % 4

unfoldable pub point_bytes : WhitePoint → List ℕ
point_bytes p =
    p.index ∷ place_low p.place.x p.place.y ∷ low (p.place.x / 4) ∷ low (p.place.y / 4) ∷ gamma_byte p.gamma ∷ []

abbrev pub ReadsPoint : List ℕ → WhitePoint → Type 0
ReadsPoint t p = point_of (t ! 0) (t ! 1) (t ! 2) (t ! 3) (t ! 4) ≡ Some p

abbrev pub WritesPoint : WhitePoint → Bool → List ℕ → Type 0
WritesPoint = Writes Bytes ReadsPoint point_bytes

-- the test that the code makes, with that of the gamma
abbrev pub point_fits : WhitePoint → Bool → Bool
point_fits p gamma = eqb (digit (leb 1 p.index) + digit (leb p.place.x 1023) + digit (leb p.place.y 1023) + digit gamma) 4
