-- Which ratios a structure's codes mean.
use Rattle.std.specs.Prelude.{ℕ, ◌≤◌, ◌≡◌, refl, Bool, true, false, cond, eqb, ltb}
use Rattle.std.proofs.Common.{subst, arith, le-ltb}
use Rattle.standard_record.specs.declared.Ratio.{Ratio}
use Rattle.standard_parts.specs.Structure.{structure_of}
use Rattle.standard_parts.specs.Timings.{ratio, first_ratio, ratio_of}
use Rattle.standard_parts.specs.declared.Structure.{Structure}

-- some code means it
abbrev pub Coded : Structure → Ratio → Type 0
Coded σ r = (code : ℕ) × (ratio_of σ code ≡ r)

-- what holds of the four ratios of a structure holds of each that is coded
of_four : (P : Ratio → Type 0) (σ : Structure) → P (first_ratio σ) → P (ratio 4 3) → P (ratio 5 4) → P (ratio 16 9) → (r : Ratio) → Coded σ r → P r
of_four P σ first second third fourth r (code, e) = subst P e (go (eqb code 0) (eqb code 1) (eqb code 2))
  where
    go : (x y z : Bool) → P (cond x (first_ratio σ) (cond y (ratio 4 3) (cond z (ratio 5 4) (ratio 16 9))))
    go true y z = first
    go false true z = second
    go false false true = third
    go false false false = fourth

-- below revision 3 no code means 16:10, from it on none means 1:1
pub no_16_10 : Coded Structure.Below3 (ratio 16 10) → ⊥
no_16_10 h = of_four (λ r. r.height ≡ 10 → ⊥) Structure.Below3 (λ e. omega arith) (λ e. omega arith) (λ e. omega arith) (λ e. omega arith) (ratio 16 10) h refl

pub no_1_1 : (revision : ℕ) → 3 ≤ revision → Coded (structure_of revision) (ratio 1 1) → ⊥
no_1_1 revision new h = go (ltb revision 4) (rw (le-ltb revision 3 new) at h)
  where
    none : (σ : Structure) → ((first_ratio σ).width ≡ 1 → ⊥) → Coded σ (ratio 1 1) → ⊥
    none σ first h = of_four (λ r. r.width ≡ 1 → ⊥) σ first (λ e. omega arith) (λ e. omega arith) (λ e. omega arith) (ratio 1 1) h refl

    go : (t : Bool) → Coded (cond t Structure.From3 Structure.From4) (ratio 1 1) → ⊥
    go true h = none Structure.From3 (λ e. omega arith) h
    go false h = none Structure.From4 (λ e. omega arith) h
