-- What is asked: three numbers in decimal in the first line, with one space between them, then the block.
use Rattle.std.specs.Prelude.{ℕ, suc, ◌+◌, ◌-◌, ◌*◌, ◌≤◌, Bool, false, cond, List, [], ◌∷◌, eqb, leb, ltb, drop, Option, None, Some}
use Rattle.timing.specs.Axis.{pixels, lines}
use Rattle.pick_lines.specs.declared.Number.{Number}
use Rattle.pick_lines.specs.declared.Asked.{Asked}

abbrev pub is_digit : ℕ → Bool
is_digit b = cond (ltb b 48) false (ltb b 58)

-- Of the bytes from `at` on: the decimal digits up to the byte `end`, which go on a number that began at `from` and has this value so far.
-- The number, at most `top`, and the place behind `end`; nothing where another byte comes first, the number is above, or there is no digit.
abbrev pub number_in : ℕ → ℕ → ℕ → ℕ → ℕ → List ℕ → Option Number
number_in top end from value at [] = None
number_in top end from value at (b ∷ bs) =
    let longer = value * 10 + (b - 48) in
    cond (eqb b end) (cond (eqb at from) None (Some (record { value = value; next = suc at })))
    (cond (is_digit b) (cond (leb longer top) (number_in top end from longer (suc at) bs) None) None)

abbrev pub number_from : ℕ → ℕ → ℕ → List ℕ → Option Number
number_from top end from s = number_in top end from 0 from (drop from s)

-- ---- the line

-- what is asked by a number and what follows it; nothing where there is none
infixr 20 ◌then◌
abbrev pub ◌then◌ : Option Number → (ℕ → ℕ → Option Asked) → Option Asked
None then f = None
Some n then f = f n.value n.next

-- the limits, and where the block begins
abbrev pub asked_in : List ℕ → Option Asked
asked_in s =
    number_from 4294967295 32 0 s then λ clock at.
    number_from 65535 32 at s then λ across at.
    number_from 65535 10 at s then λ down at.
    Some (record { limits = record { clock = clock; across = pixels across; down = lines down }; block = at })

-- ---- for the proofs of the code

-- a number keeps its top, and what follows begins within the bytes
abbrev pub Bounded : ℕ → ℕ → Number → Type 0
Bounded top long n = (n.value ≤ top) × (n.next ≤ long)

abbrev pub Inside : ℕ → Asked → Type 0
Inside long a = a.block ≤ long
