-- A test computed over every number below n holds at each of them.
use Rattle.std.specs.Prelude.{ℕ, zero, suc, ◌<◌, ◌≡◌, Bool, true, ◌&&◌, ◌⊎◌}
use Rattle.std.proofs.Common.{ap, ◌∙◌, inl, inr, arith, eq-or-lt_of_le, le_of_suc-le-suc}
use Rattle.write_leaf.specs.Digits.{both_hold}

abbrev pub every : ℕ → (ℕ → Bool) → Bool
every zero f = true
every (suc n) f = f n && every n f

here : (f : ℕ → Bool) (n i : ℕ) → f n ≡ true → ((i < n) → f i ≡ true) → (i ≡ n) ⊎ (i < n) → f i ≡ true
here f n i e rest (inl p) = ap f p ∙ e
here f n i e rest (inr p) = rest p

pub at : (f : ℕ → Bool) (n : ℕ) → every n f ≡ true → (i : ℕ) → i < n → f i ≡ true
at f zero h i p = absurd (omega arith)
at f (suc n) h i p =
    let t = both_hold (f n) (every n f) h in
    here f n i t.0 (at f n t.1 i) (eq-or-lt_of_le (le_of_suc-le-suc p))
