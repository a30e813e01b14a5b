-- What an accepted verdict has passed, and where a refusal lies.
use Rattle.std.specs.Prelude.{ℕ, ◌≤◌, ◌≡◌, refl, Bool, true, false, List, eqb, length, Ok, Err}
use Rattle.std.proofs.Common.{arith, eqb-true}
use Rattle.bits.specs.Bytes.{◌!◌}
use Rattle.sums.specs.Sum.{byte_sum}
use Rattle.standard_record.specs.Verdict.{Verdict}
use Rattle.standard_verdict.specs.Verdict.{must, ◌then◌, is_header, before_slots}

-- ---- accepted

pub then_first : (v w : Verdict) → (v then w) ≡ Ok tt → v ≡ Ok tt
then_first (Ok tt) w e = refl
then_first (Err f) w e = e

pub must_hold : (t : Bool) (n at : ℕ) → must t n at ≡ Ok tt → t ≡ true
must_hold true n at e = refl
must_hold false n at e = cc

pub then_second : (v w : Verdict) → (v then w) ≡ Ok tt → w ≡ Ok tt
then_second (Ok tt) w e = e
then_second (Err f) w e = cc

-- what is not refused before the slots has 128 bytes
pub has_128 : (s : List ℕ) → before_slots s ≡ Ok tt → length s ≡ 128
unfolding before_slots
has_128 s e = eqb-true _ _ (must_hold _ 7 0 (then_first _ _ (then_first _ _ (then_first _ _ e))))

-- and the header, and version 1
pub has_header : (s : List ℕ) → before_slots s ≡ Ok tt → is_header s ≡ true
unfolding before_slots
has_header s e =
    must_hold (is_header s) 2 0
    (then_second (must (eqb (length s) 128) 7 0) (must (is_header s) 2 0) (then_first _ (must (eqb (byte_sum s) 0) 8 127) (then_first _ (must (eqb (s ! 18) 1) 9 18) e)))

pub has_version : (s : List ℕ) → before_slots s ≡ Ok tt → s ! 18 ≡ 1
unfolding before_slots
has_version s e = eqb-true _ _ (must_hold (eqb (s ! 18) 1) 9 18 (then_second (must (eqb (length s) 128) 7 0 then must (is_header s) 2 0 then must (eqb (byte_sum s) 0) 8 127) (must (eqb (s ! 18) 1) 9 18) e))

-- ---- refused

-- by a number of 2 to 9, at a byte of the block
abbrev pub Bounded : Verdict → Type 0
Bounded (Ok tt) = Unit
Bounded (Err f) = (2 ≤ f.number) × (f.number ≤ 9) × (f.at ≤ 127)

pub then_bounded : (v w : Verdict) → Bounded v → Bounded w → Bounded (v then w)
then_bounded (Ok tt) w h k = k
then_bounded (Err f) w h k = h

pub bounded_before : (s : List ℕ) → Bounded (before_slots s)
unfolding before_slots
bounded_before s = go (eqb (length s) 128) (is_header s) (eqb (byte_sum s) 0) (eqb (s ! 18) 1)
  where
    go : (size header sum version : Bool) → Bounded (must size 7 0 then must header 2 0 then must sum 8 127 then must version 9 18)
    go false b c d = omega arith
    go true false c d = omega arith
    go true true false d = omega arith
    go true true true false = omega arith
    go true true true true = tt
