-- Laws: a standard timing's bytes are those that it was read from.
use Rattle.std.specs.Prelude.{ℕ, zero, suc, ◌+◌, ◌*◌, ◌<◌, ◌≡◌, refl, Bool, true, false, ◌&&◌, cond, eqb, None, Option, Some}
use Rattle.std.proofs.Common.{ap, arith, eqb-true}
use Rattle.bits.specs.Fields.{digits}
use Rattle.standard_record.specs.declared.StandardTiming.{StandardTiming}
use Rattle.standard_parts.specs.Timings.{ratio_of, pair_of}
use Rattle.standard_parts.specs.declared.Structure.{Structure}
use Rattle.standard_parts.specs.declared.Structure.TheVariants.{Below3, From3, From4}
use Rattle.write_leaf.specs.Digits.{four_hold, agrees}
use Rattle.write_parts.specs.Pair.{ratio_code, pair_low, pair_high, WritesPair, same_timing, same_pair}

-- ---- the comparison

same_is : (w v : StandardTiming) → same_timing w v ≡ true → w ≡ v
same_is w v h =
    let all =
    four_hold (eqb w.width v.width) (eqb w.ratio.width v.ratio.width) (eqb w.ratio.height v.ratio.height) (eqb w.rate v.rate) h in
    λ i. record {
      width = eqb-true w.width v.width all.0 i;
      ratio = record { width = eqb-true w.ratio.width v.ratio.width all.1 i; height = eqb-true w.ratio.height v.ratio.height all.2 i };
      rate = eqb-true w.rate v.rate all.3 i;
    }

same_self : (v : StandardTiming) → same_timing v v ≡ true
same_self v = rw (agrees v.width, agrees v.ratio.width, agrees v.ratio.height, agrees v.rate)

-- ---- the bytes

code_back : (σ : Structure) (c : ℕ) → c < 4 → ratio_code (ratio_of σ c) ≡ c
code_back Below3 zero h = refl
code_back From3 zero h = refl
code_back From4 zero h = refl
code_back σ (suc zero) h = refl
code_back σ (suc (suc zero)) h = refl
code_back σ (suc (suc (suc zero))) h = refl
code_back σ (suc (suc (suc (suc c)))) h = absurd (omega arith)

listed : (z : Bool) (w v : StandardTiming) → cond z None (Some w) ≡ Some v → w ≡ v
listed true w v h = cc
listed false w v h = cc

-- what two bytes that are not 01 01 are read as
abbrev made : Structure → ℕ → ℕ → StandardTiming
made σ a b = record { width = (a + 31) * 8; ratio = ratio_of σ (digits b 6 2); rate = digits b 0 6 + 60 }

is_made : (σ : Structure) (a b : ℕ) (v : StandardTiming) → pair_of σ a b ≡ Some v → made σ a b ≡ v
unfolding pair_of
is_made σ a b v h = listed (eqb a 1 && eqb b 1) (made σ a b) v h

bytes_back : (σ : Structure) (a b : ℕ) → a < 256 → b < 256 → (v : StandardTiming) → pair_of σ a b ≡ Some v → (pair_low v ≡ a) × (pair_high v ≡ b)
bytes_back σ a b ha hb v h =
    let e = is_made σ a b v h in
    (rw (← e) (omega arith), rw (← e) (rw (code_back σ (digits b 6 2) (omega arith)) (omega arith)))

-- the ratio of a pair that is read is that of a code
pub ratio_code_lem : (σ : Structure) (a b : ℕ) (v : StandardTiming) → pair_of σ a b ≡ Some v → (code : ℕ) × (ratio_of σ code ≡ v.ratio)
ratio_code_lem σ a b v h = (digits b 6 2, ap (λ (w : StandardTiming). w.ratio) (is_made σ a b v h))

pub writes_pair : (σ : Structure) (v : StandardTiming) → WritesPair σ v (same_pair (pair_of σ (pair_low v) (pair_high v)) v) (pair_low v, pair_high v)
writes_pair σ v = record {
  made = refl;
  sound = λ h. pair_is (pair_of σ (pair_low v) (pair_high v)) v h;
  complete = λ s b h.
      let e = bytes_back σ s.0 s.1 b.0 b.1 v h in
      rw (e.0, e.1, h) (same_self v);
}
  where
    pair_is : (p : Option StandardTiming) (v : StandardTiming) → same_pair p v ≡ true → p ≡ Some v
    pair_is None v h = cc
    pair_is (Some w) v h = ap Some (same_is w v h)
