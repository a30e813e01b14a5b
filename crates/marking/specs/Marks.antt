-- The marks of a block s: what it may hold at fixed places that the two readings take for different things. Of a slot, t is its 18 bytes.
use Rattle.std.specs.Prelude.{ℕ, zero, suc, ◌+◌, ◌*◌, Bool, false, not, ◌&&◌, ◌||◌, List, eqb, ltb, leb}
use Rattle.bits.specs.Fields.{digits}
use Rattle.bits.specs.Bytes.{◌!◌, part}
use Rattle.marking.specs.declared.Marks.{Marks}

-- one of the first n
abbrev pub some : ℕ → (ℕ → Bool) → Bool
some zero f = false
some (suc n) f = some n f || f n

abbrev pub slot_in : List ℕ → ℕ → List ℕ
slot_in s i = part s (54 + 18 * i) 18

-- one of the four slots
abbrev pub in_slots : (List ℕ → Bool) → List ℕ → Bool
in_slots f s = some 4 (λ i. f (slot_in s i))

-- ---- a slot

abbrev pub clockless : List ℕ → Bool
clockless t = eqb (t ! 0 + 256 * t ! 1) 0

-- one without a clock goes by its fourth byte
abbrev pub tagged : ℕ → List ℕ → Bool
tagged tag t = clockless t && eqb (t ! 3) tag

-- a clock, and an active low byte of zero
abbrev pub active_low_zero : List ℕ → Bool
active_low_zero t = not (clockless t) && eqb (t ! 2) 0

abbrev pub tag10 : List ℕ → Bool
tag10 t = tagged 0x10 t

-- of either white point
abbrev pub index_zero : List ℕ → Bool
index_zero t = tagged 0xfb t && (eqb (t ! 5) 0 || eqb (t ! 10) 0)

abbrev pub gamma_ff : List ℕ → Bool
gamma_ff t = tagged 0xfb t && (eqb (t ! 9) 0xff || eqb (t ! 14) 0xff)

-- ---- pairs

-- one with ratio code 0 that is listed: 01 01 is not
abbrev pub code_zero : ℕ → ℕ → Bool
code_zero low high = eqb (digits high 6 2) 0 && not (eqb low 1 && eqb high 1)

-- one of n pairs from k on
abbrev pub codes_zero : List ℕ → ℕ → ℕ → Bool
codes_zero t k n = some n (λ i. code_zero (t ! (k + 2 * i)) (t ! (k + 2 * i + 1)))

-- of those of an fa slot
abbrev pub pairs_zero : List ℕ → Bool
pairs_zero t = tagged 0xfa t && codes_zero t 5 6

-- ---- the marks

unfoldable pub marks_in : List ℕ → Marks
marks_in s = record {
  active = in_slots active_low_zero s;
  dummy = in_slots tag10 s;
  index = in_slots index_zero s;
  gamma = in_slots gamma_ff s;
  ratio = ltb (s ! 19) 3 && (codes_zero s 38 8 || in_slots pairs_zero s);
  revision = leb 4 (s ! 19);
}
