-- The panel register: the two layouts of a record, and the steps between them.
use Rattle.std.specs.Prelude.{ℕ, zero, suc, ◌+◌, ◌*◌, ◌/◌, ◌%◌, Bool, true, cond, ◌&&◌, ◌||◌, List, [], ◌∷◌, ◌++◌, eqb, leb, length, take, replicate}
use Rattle.bits.specs.Bytes.{◌!◌, part}

-- ---- the layouts

abbrev pub zeros : ℕ → List ℕ
zeros n = replicate n 0

-- a number in that many bytes, low byte first
abbrev pub little_endian : ℕ → ℕ → List ℕ
little_endian zero n = []
little_endian (suc width) n = n % 256 ∷ little_endian width (n / 256)

-- 136 bytes: panel number, four zero bytes, base block
abbrev pub short : ℕ → List ℕ → List ℕ
short panel base = little_endian 4 panel ++ zeros 4 ++ base

-- 264 bytes: panel number, extension count, three zero bytes, base block, extension block
abbrev pub long : ℕ → ℕ → List ℕ → List ℕ → List ℕ
long panel count base extension = little_endian 4 panel ++ (count ∷ zeros 3) ++ base ++ extension

-- ---- the fields of a record of either length

-- the number in bytes, low byte first
abbrev pub number_of : List ℕ → ℕ
number_of [] = 0
number_of (b ∷ s) = b + 256 * number_of s

abbrev pub panel_of : List ℕ → ℕ
panel_of s = number_of (take 4 s)

abbrev pub base_of : List ℕ → List ℕ
base_of s = part s 8 128

-- ---- the steps

-- a refusal by its number, or the other record
pub data Step : Type 0 where
  Refused : ℕ → Step
  Record : List ℕ → Step

-- refused where the test fails
abbrev pub must : Bool → ℕ → Step → Step
must test number step = cond test step (Refused number)

infixr 20 ◌then◌
-- the first refusal stays
abbrev pub ◌then◌ : (Step → Step) → Step → Step
judged then step = judged step

abbrev pub all_zero : List ℕ → Bool
all_zero [] = true
all_zero (b ∷ s) = eqb b 0 && all_zero s

abbrev pub step_up : List ℕ → Step
step_up s =
    must (eqb (length s) 136) 15
    then must (all_zero (part s 4 4)) 17
    then Record (long (panel_of s) 0 (base_of s) (zeros 128))

-- byte 4 is the extension count: where it is 0 the extension block is zero too
abbrev pub step_down : List ℕ → Step
step_down s =
    must (eqb (length s) 264) 15
    then must (leb (s ! 4) 1) 17
    then must (all_zero (part s 5 3)) 17
    then must (eqb (s ! 4) 1 || all_zero (part s 136 128)) 17
    then must (eqb (s ! 4) 0) 16
    then Record (short (panel_of s) (base_of s))

-- ---- the output that is lent

-- the number, 0 where there is none, and the output's bytes afterwards: refused, it keeps its own
abbrev pub written : List ℕ → Step → ℕ × List ℕ
written output (Refused number) = (number, output)
written output (Record other) = (0, other)

-- first of all the output has the length of the other record
abbrev pub into : ℕ → List ℕ → Step → ℕ × List ℕ
into size output step = written output (must (eqb (length output) size) 15 step)
