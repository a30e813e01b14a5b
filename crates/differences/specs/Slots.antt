-- What is said of the four slots of a block without a mark, but for the revision's, one after the other; that both readings take them so is in proofs/Slots.
use Prim.Native.Nat.{ℕ, zero, suc, ◌+◌, ◌<◌}
use Rattle.std.specs.Prelude.{◌≡◌, Bool, true, false, ◌&&◌, ◌||◌, cond, List, [], ◌∷◌, leb, ltb, Ok}
use Rattle.std.proofs.Math.Path.{refl}
use Rattle.std.proofs.Common.{subst, ltb-true, ltb-false, le-leb}
use Rattle.std.proofs.lemmas.Bool.{false≢true}
use native.Mathlib.Omega.{arith}
use Rattle.std.proofs.Math.ListN.{drop}
use Rattle.bits.specs.Bytes.{◌!◌}
use Rattle.crate_slots.specs.Slots as crate
use Rattle.standard_parts.specs.declared.Structure.{Structure}
use Rattle.standard_parts.specs.Structure.{structure_of, since4}
use Rattle.standard_head.specs.Head.{structure_in}
use Rattle.standard_slots.specs.Said.{lists, said}
use Rattle.standard_reading.specs.Slots.{start, said_in, judge}
use Rattle.marking.specs.Marks.{some, in_slots, codes_zero, pairs_zero, marks_in}
use Rattle.differences.specs.Unmarked.{Block, Clear, NoOffsets}
use Rattle.differences.specs.Pairs.{nor}
use Rattle.differences.specs.Kinds.{plain_from}

-- none of n, so not this one
pub none_of : (n : ℕ) (f : ℕ → Bool) → some n f ≡ false → (i : ℕ) → i < n → f i ≡ false
none_of zero f h i l = absurd (omega arith)
none_of (suc n) f h i l = go (ltb i n) refl (none_of n f (nor (some n f) (f n) h).0 i)
  where
    go : (t : Bool) → ltb i n ≡ t → (i < n → f i ≡ false) → f i ≡ false
    go true e before = before (ltb-true i n e)
    go false e before = let here : i ≡ n = omega (arith, ltb-false i n e) in rw here (nor (some n f) (f n) h).1

-- this one, so one of n
or_second : (a b : Bool) → b ≡ true → (a || b) ≡ true
or_second true b h = refl
or_second false b h = h

pub one_of : (n : ℕ) (f : ℕ → Bool) (i : ℕ) → i < n → f i ≡ true → some n f ≡ true
one_of zero f i l h = absurd (omega arith)
one_of (suc n) f i l h = go (ltb i n) refl (one_of n f i)
  where
    go : (t : Bool) → ltb i n ≡ t → (i < n → f i ≡ true → some n f ≡ true) → (some n f || f n) ≡ true
    go true e before = rw (before (ltb-true i n e) h)
    go false e before = let here : i ≡ n = omega (arith, ltb-false i n e) in or_second (some n f) (f n) (subst (λ (k : ℕ). f k ≡ true) here h)

pub second_not : (a b : Bool) → a ≡ true → (a && b) ≡ false → b ≡ false
second_not true b e h = h
second_not false b e h = absurd (false≢true e)

-- below 3 by the structure, and by the revision
pub below_three : (r : ℕ) → structure_of r ≡ Structure.Below3 → ltb r 3 ≡ true
below_three r = go (ltb r 3) (ltb r 4)
  where
    go : (t u : Bool) → cond t Structure.Below3 (cond u Structure.From3 Structure.From4) ≡ Structure.Below3 → t ≡ true
    go true u e = refl
    go false true e = cc
    go false false e = cc

-- from 4 on by the structure, and by the revision
pub from_four : (r : ℕ) → since4 (structure_of r) ≡ true → leb 4 r ≡ true
from_four r h = go (ltb r 3) (ltb r 4) refl h
  where
    go : (t u : Bool) → ltb r 4 ≡ u → since4 (cond t Structure.Below3 (cond u Structure.From3 Structure.From4)) ≡ true → leb 4 r ≡ true
    go true u e h = absurd (false≢true h)
    go false true e h = absurd (false≢true h)
    go false false e h = le-leb 4 r (ltb-false r 4 e)

module _ (s : List ℕ) where
  -- of the 18 bytes t of slot i the crate reading says x
  abbrev pub Tells : ℕ → List ℕ → crate.Said → List ℕ → ℕ → Type 0
  Tells i t x cs n =
      let y = said (structure_in s) i t (start i) in
      (judge y (start i) ≡ Ok tt) × (NoOffsets s → crate.lists x ≡ plain_from (lists y)) × (cs ≡ drop (start i + 18) s) × (n ≡ start i + 18)

  -- what slot i lists, converted
  abbrev pub listed : ℕ → crate.Plain
  listed i = plain_from (lists (said_in s i))

  -- n slots from i on are accepted
  abbrev pub Accepts : ℕ → ℕ → Type 0
  Accepts zero i = Unit {0}
  Accepts (suc n) i = (judge (said_in s i) (start i) ≡ Ok tt) × Accepts n (suc i)

  -- and the crate reading says xs of them, and lists the same, where no offsets add anything
  abbrev pub All : ℕ → ℕ → List crate.Said → Type 0
  All zero i xs = xs ≡ []
  All (suc n) i [] = ⊥
  All (suc n) i (x ∷ xs) = (NoOffsets s → crate.lists x ≡ listed i) × All n (suc i) xs

  abbrev pub LaterRead : ℕ → ℕ → List crate.Said → List ℕ → ℕ → Type 0
  LaterRead n i xs cs m = Accepts n i × All n i xs × (cs ≡ drop 126 s) × (m ≡ 126)

module _ (s : List ℕ) (block : Block s) (clear : Clear s) where
  -- of ratios there is something to say below revision 3 alone
  pub ratios : structure_in s ≡ Structure.Below3 → (codes_zero s 38 8 ≡ false) × (in_slots pairs_zero s ≡ false)
  unfolding marks_in
  ratios e = nor (codes_zero s 38 8) (in_slots pairs_zero s) (second_not (ltb (s ! 19) 3) _ (below_three (s ! 19) e) clear.ratio)
