-- The greatest value of a list's elements, and the first place of it: of any list and any values.
use Rattle.std.specs.Prelude.{ℕ, zero, suc, ◌<◌, ◌≤◌, max, ◌≡◌, refl, Bool, true, false, cond, List, [], ◌∷◌, leb}
use Rattle.std.proofs.Common.{arith, leb-true, leb-false}
use Rattle.picking.specs.Best.{At}

module _ {A : Type 0} (f : A → ℕ) where
  -- 0 of no element
  abbrev pub greatest : List A → ℕ
  greatest [] = 0
  greatest (x ∷ xs) = max (f x) (greatest xs)

  abbrev pub place : List A → ℕ
  place [] = 0
  place (x ∷ xs) = cond (leb (greatest xs) (f x)) 0 (suc (place xs))

  pub no_greater : (xs : List A) (j : ℕ) (x : A) → At xs j x → f x ≤ greatest xs
  no_greater [] j x h = absurd h
  no_greater (y ∷ ys) zero x h = rw (← h) (omega arith)
  no_greater (y ∷ ys) (suc j) x h = omega (arith, no_greater ys j x h)

  -- an element with that value stands there
  abbrev Reached : List A → Type 0
  Reached xs = (x : A) × (At xs (place xs) x × (f x ≡ greatest xs))

  pub reached : (xs : List A) → 0 < greatest xs → Reached xs
  reached [] h = absurd (omega arith)
  reached (y ∷ ys) h = go (leb (greatest ys) (f y)) refl (reached ys)
    where
      go : (t : Bool) → leb (greatest ys) (f y) ≡ t → (0 < greatest ys → Reached ys)
          → (x : A) × (At (y ∷ ys) (cond t 0 (suc (place ys))) x × (f x ≡ max (f y) (greatest ys)))
      go true e r = (y, (refl, omega (arith, leb-true (greatest ys) (f y) e)))
      go false e r =
          let less = leb-false (greatest ys) (f y) e in
          let later = r (omega arith) in
          (later.0, (later.1.0, omega (arith, later.1.1)))

  -- and none before it
  pub earliest : (xs : List A) (j : ℕ) (x : A) → At xs j x → f x ≡ greatest xs → place xs ≤ j
  earliest [] j x h s = absurd h
  earliest (y ∷ ys) j x h s = go (leb (greatest ys) (f y)) refl j h (λ k. earliest ys k x)
    where
      go : (t : Bool) → leb (greatest ys) (f y) ≡ t → (j : ℕ) → At (y ∷ ys) j x
          → ((k : ℕ) → At ys k x → f x ≡ greatest ys → place ys ≤ k) → cond t 0 (suc (place ys)) ≤ j
      go true e j h r = omega arith
      go false e zero h r =
          let less = leb-false (greatest ys) (f y) e in
          let s' : f y ≡ max (f y) (greatest ys) = rw (← h) at s in
          absurd (omega arith)
      go false e (suc k) h r = let less = leb-false (greatest ys) (f y) e in omega (arith, r k h (omega (arith, s)))
