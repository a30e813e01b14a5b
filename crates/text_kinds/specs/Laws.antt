-- What proofs use of a test that runs along numbers.
use Rattle.std.specs.Prelude.{ℕ, zero, suc, ◌+◌, ◌≡◌, Bool, refl}
use Rattle.std.specs.List.{list_all, range_with_len}

-- the same from one further on
pub shifted : (p q : ℕ → Bool) → ((k : ℕ) → p (k + 1) ≡ q k) → (a n : ℕ) → list_all p (range_with_len (a + 1) n) ≡ list_all q (range_with_len a n)
shifted p q e a zero = refl
shifted p q e a (suc n) = rw (e a, shifted p q e (a + 1) n)
