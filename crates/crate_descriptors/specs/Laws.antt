-- A turn of the loop over spaces, and which reading a kind picks: for the proofs of the code.
use Rattle.std.specs.Prelude.{ℕ, ◌+◌, ◌-◌, ◌<◌, ◌≤◌, ◌≡◌, eqb}
use Rattle.std.proofs.Math.Path.{ap}
use Rattle.std.proofs.Common.{◌∙◌, ne_eqb}
use Rattle.steps.specs.Steps.{done, ◌>>=◌, ◌>>◌, ensure}
use Rattle.steps.specs.Laws.{more, zero_left, picked_not}
use Rattle.steps.specs.Leaves.{word}
use Rattle.crate_descriptors.specs.Descriptors.{spaces, none, gtf, other, secondary}

pub spaces_more : (n i : ℕ) → i < n → spaces (n - i) ≡ (word >>= (λ w. ensure (eqb w 0x2020) 5 >> spaces (n - (i + 1))))
unfolding spaces
spaces_more n i h = ap spaces (more n i h)

pub spaces_end : (n i : ℕ) → n ≤ i → spaces (n - i) ≡ done tt
unfolding spaces
spaces_end n i h = ap spaces (zero_left n i h)

module _ {kind : ℕ} where
  pub secondary_none : kind ≡ 0x00 → secondary kind ≡ none
  unfolding secondary
  secondary_none e = ap secondary e

  pub secondary_gtf : kind ≡ 0x02 → secondary kind ≡ gtf
  unfolding secondary
  secondary_gtf e = ap secondary e

  pub secondary_other : (kind ≡ 0x00 → ⊥) → (kind ≡ 0x02 → ⊥) → secondary kind ≡ other kind
  unfolding secondary
  secondary_other x y = picked_not _ _ _ (ne_eqb _ _ x) ∙ picked_not _ _ _ (ne_eqb _ _ y)
