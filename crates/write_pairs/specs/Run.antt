-- The entries at the front of a list that carry one number.
use Rattle.std.specs.Prelude.{ℕ, zero, suc, ◌<◌, ◌≤◌, ◌≡◌, refl, Bool, true, false, cond, List, [], ◌∷◌, ◌++◌, map, eqb, length, get_or, drop}
use Rattle.std.proofs.Common.{sym, ap, ◌∙◌, arith, eqb-true, eq-eqb, ne_eqb}
use Rattle.fixed.specs.Numbered.{Wrapper}

module _ {A B : Type 0} (w : Wrapper A B) (n : ℕ) where
  -- of the first k of bs, those before the first that has another number than n
  abbrev pub run : ℕ → List B → List A
  run zero bs = []
  run (suc k) [] = []
  run (suc k) (b ∷ bs) = cond (eqb (w.number b) n) (w.entry b ∷ run k bs) []

  -- the first of bs, if there is one, has another number
  abbrev pub Other : List B → Type 0
  Other [] = Unit
  Other (b ∷ bs) = w.number b ≡ n → ⊥

  -- ---- a turn: one more, or no more

  pub run_more : (m : ℕ) (bs : List B) (z : B) → length (run m bs) ≡ m → m < length bs → w.number (get_or bs m z) ≡ n
      → run (suc m) bs ≡ run m bs ++ w.entry (get_or bs m z) ∷ []
  run_more zero [] z e h own = absurd (omega arith)
  run_more zero (b ∷ bs) z e h own = rw (eq-eqb (w.number b) n own)
  run_more (suc m) [] z e h own = absurd (omega arith)
  run_more (suc m) (b ∷ bs) z e h own = go (eqb (w.number b) n) e (λ f. run_more m bs z f (omega arith) own)
    where
      go : (t : Bool) → length (cond t (w.entry b ∷ run m bs) []) ≡ suc m
          → (length (run m bs) ≡ m → run (suc m) bs ≡ run m bs ++ w.entry (get_or bs m z) ∷ [])
          → cond t (w.entry b ∷ run (suc m) bs) [] ≡ cond t (w.entry b ∷ run m bs) [] ++ w.entry (get_or bs m z) ∷ []
      go true e more = ap (λ xs. w.entry b ∷ xs) (more (omega arith))
      go false e more = absurd (omega arith)

  pub run_stops : (m k : ℕ) (bs : List B) → length (run m bs) ≡ m → m ≤ k → Other (drop m bs) → run k bs ≡ run m bs
  run_stops zero zero bs e h o = refl
  run_stops zero (suc k) [] e h o = refl
  run_stops zero (suc k) (b ∷ bs) e h o = rw (ne_eqb (w.number b) n o)
  run_stops (suc m) zero bs e h o = absurd (omega arith)
  run_stops (suc m) (suc k) [] e h o = refl
  run_stops (suc m) (suc k) (b ∷ bs) e h o = go (eqb (w.number b) n) e (λ f. run_stops m k bs f (omega arith) o)
    where
      go : (t : Bool) → length (cond t (w.entry b ∷ run m bs) []) ≡ suc m → (length (run m bs) ≡ m → run k bs ≡ run m bs)
          → cond t (w.entry b ∷ run k bs) [] ≡ cond t (w.entry b ∷ run m bs) []
      go true e more = ap (λ xs. w.entry b ∷ xs) (more (omega arith))
      go false e more = refl

  -- ---- what is taken, and what is left

  pub run_at_most : (k : ℕ) (bs : List B) → length (run k bs) ≤ k
  run_at_most zero bs = omega arith
  run_at_most (suc k) [] = omega arith
  run_at_most (suc k) (b ∷ bs) = go (eqb (w.number b) n) (run_at_most k bs)
    where
      go : (t : Bool) → length (run k bs) ≤ k → length (cond t (w.entry b ∷ run k bs) []) ≤ suc k
      go true h = omega arith
      go false h = omega arith

  pub run_front : (k : ℕ) (bs : List B) → bs ≡ map (w.wrap n) (run k bs) ++ drop (length (run k bs)) bs
  run_front zero bs = refl
  run_front (suc k) [] = refl
  run_front (suc k) (b ∷ bs) = go (eqb (w.number b) n) refl (run_front k bs)
    where
      go : (t : Bool) → eqb (w.number b) n ≡ t → bs ≡ map (w.wrap n) (run k bs) ++ drop (length (run k bs)) bs
          → b ∷ bs ≡ map (w.wrap n) (cond t (w.entry b ∷ run k bs) []) ++ drop (length (cond t (w.entry b ∷ run k bs) [])) (b ∷ bs)
      go true e rest =
          let own : b ≡ w.wrap n (w.entry b) = sym (w.whole b) ∙ ap (λ m. w.wrap m (w.entry b)) (eqb-true (w.number b) n e) in
          λ i. own i ∷ rest i
      go false e rest = refl

  -- entries numbered n, no more than k, before others
  pub run_own : (k : ℕ) (xs : List A) (bs : List B) → length xs ≤ k → Other bs → run k (map (w.wrap n) xs ++ bs) ≡ xs
  run_own zero [] bs h o = refl
  run_own (suc k) [] [] h o = refl
  run_own (suc k) [] (b ∷ bs) h o = rw (ne_eqb (w.number b) n o)
  run_own zero (x ∷ xs) bs h o = absurd (omega arith)
  run_own (suc k) (x ∷ xs) bs h o =
      rw (eq-eqb (w.number (w.wrap n x)) n (w.number_is n x), w.entry_is n x) (ap (λ t. x ∷ t) (run_own k xs bs (omega arith) o))
