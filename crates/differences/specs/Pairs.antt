-- The pairs of standard timings, one after the other: those before the slots, and those of an fa slot.
use Prim.Native.Nat.{ℕ, zero, suc, ◌+◌, ◌*◌, ◌≤◌}
use Rattle.std.specs.Prelude.{◌≡◌, refl, Bool, true, false, ◌||◌, length}
use Rattle.std.proofs.Math.Path.{sym, ap}
use Rattle.std.proofs.Common.{subst, ◌∙◌, true≢false}
use mathlib.Core.List.{List, ◌++◌, map, map-append, append-nil, append_assoc}
use native.Mathlib.Omega.{arith}
use Rattle.std.proofs.Math.ListN.{drop}
use Rattle.bits.specs.Bytes.{◌!◌}
use Rattle.fixed.specs.Gather.{gather}
use Rattle.steps.specs.Steps.{done}
use Rattle.steps.specs.Leaves.{byte}
use Rattle.crate_record.specs.declared.StandardTiming.{StandardTiming as CratePair}
use Rattle.crate_timings.specs.Pairs.{pair_of as crate_pair_of, pair, listed, pairs}
use Rattle.standard_parts.specs.declared.Structure.{Structure}
use Rattle.standard_slots.specs.Said.{pair_at, pairs_at}
use Rattle.marking.specs.Marks.{some, code_zero, codes_zero}
use Rattle.differences.specs.Converted.{pair_from}
use Rattle.differences.specs.Along.{Along, along_map, along_then, spell}
use Rattle.differences.specs.Leaves.{pair_agrees}

-- ---- the first, then the others

pub nor : (a b : Bool) → (a || b) ≡ false → (a ≡ false) × (b ≡ false)
nor true b h = absurd (true≢false h)
nor false b h = (refl, h)

first_not : (f : ℕ → Bool) (n : ℕ) → some (suc n) f ≡ false → (f 0 ≡ false) × (some n (λ i. f (suc i)) ≡ false)
first_not f zero h = (h, refl)
first_not f (suc n) h =
    let q = nor (some (suc n) f) (f (suc n)) h in
    let r = first_not f n q.0 in
    (r.0, rw r.1 q.1)

first_gathered : {A : Type 0} (f : ℕ → List A) (n : ℕ) → gather f (suc n) ≡ f 0 ++ gather (λ i. f (suc i)) n
first_gathered f zero = sym (append-nil (f 0))
first_gathered f (suc n) = ap (λ xs. xs ++ f (suc n)) (first_gathered f n) ∙ append_assoc (f 0) (gather (λ i. f (suc i)) n) (f (suc n))

-- in steps of two, from k on and from k + 2 on
start : (k : ℕ) → k + 2 * 0 ≡ k
start k = omega arith

onward : {B : Type 0} (h : ℕ → B) (k : ℕ) → ◌≡◌ {A = ℕ → B} (λ i. h (k + 2 * suc i)) (λ i. h (k + 2 + 2 * i))
onward h k j i = let e : k + 2 * suc i ≡ k + 2 + 2 * i = omega arith in h (e j)

module _ (σ : Structure) (s : List ℕ) where
  -- the pair at k, and those behind it
  pairs_more : (k n : ℕ) → pairs_at σ s k (suc n) ≡ pair_at σ s k ++ pairs_at σ s (k + 2) n
  pairs_more k n = first_gathered (λ i. pair_at σ s (k + 2 * i)) n ∙ (λ j. pair_at σ s (start k j) ++ gather (onward (pair_at σ s) k j) n)

  codes_more : (k n : ℕ) → codes_zero s k (suc n) ≡ false → (code_zero (s ! k) (s ! (k + 1)) ≡ false) × (codes_zero s (k + 2) n ≡ false)
  codes_more k n h =
      let q = first_not (λ i. code_zero (s ! (k + 2 * i)) (s ! (k + 2 * i + 1))) n h in (
        subst (λ (j : ℕ). code_zero (s ! j) (s ! (j + 1)) ≡ false) (start k) q.0,
        subst (λ (f : ℕ → Bool). some n f ≡ false) (onward (λ j. code_zero (s ! j) (s ! (j + 1))) k) q.1,
      )

  -- what n pairs from k on come to, and where they end
  abbrev pub PairsRead : ℕ → ℕ → ℕ → List CratePair → List ℕ → ℕ → Type 0
  PairsRead k n at xs cs m = (xs ≡ map pair_from (pairs_at σ s k n)) × (cs ≡ drop (k + 2 * n) s) × (m ≡ at + 2 * n)

  pub pairs_along : (F : ℕ → Type 0) (n k at : ℕ) → k + 2 * n ≤ length s → (σ ≡ Structure.Below3 → codes_zero s k n ≡ false)
      → Along (PairsRead k n at) F (pairs n) (drop k s) at
  unfolding pairs pair byte
  pairs_along F zero k at h z = (refl, ap (λ (j : ℕ). drop j s) (sym (start k)), sym (start at))
  pairs_along F (suc n) k at h z =
      let first = pair_agrees σ (s ! k) (s ! (k + 1)) (λ e. (codes_more k n (z e)).0) in
      let whole : map pair_from (pair_at σ s k) ++ map pair_from (pairs_at σ s (k + 2) n) ≡ map pair_from (pairs_at σ s k (suc n)) = sym (map-append pair_from (pair_at σ s k) (pairs_at σ s (k + 2) n)) ∙ ap (map pair_from) (sym (pairs_more k n)) in
      let end : k + 2 + 2 * n ≡ k + 2 * suc n = omega arith in
      rw (spell s k 2 (omega arith))
      (along_then (PairsRead k (suc n) at) F (pairs n) (λ xs. done (listed (crate_pair_of (s ! k) (s ! (k + 1))) ++ xs)) (drop (k + 2) s) (at + 1 + 1)
      (along_map (PairsRead (k + 2) n (at + 1 + 1)) F _ (pairs n) (drop (k + 2) s) (at + 1 + 1)
      (λ xs cs m r. ((λ j. first j ++ r.0 j) ∙ whole, r.1 ∙ ap (λ (j : ℕ). drop j s) end, omega (arith, r.2)))
      (pairs_along F n (k + 2) (at + 1 + 1) (omega arith) (λ e. (codes_more k n (z e)).1))))
