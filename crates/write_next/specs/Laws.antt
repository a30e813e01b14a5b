-- The entry at hand is the run of one from its place on; two of them, and whether there is any, follow.
use Rattle.std.specs.Prelude.{ℕ, zero, suc, ◌+◌, ◌%◌, ◌<◌, min, ◌≡◌, refl, Bool, true, false, cond, ◌&&◌, List, [], ◌∷◌, eqb, ltb, length, get_or, take, drop}
use Rattle.std.proofs.Common.{sym, ap, ◌∙◌, mod-eq_of_lt, arith, length-take, drop_of_length-le, drop-cons, drop-drop, get_or-take, ltb-true, ltb-false}
use Rattle.fixed.specs.Gather.{when}
use Rattle.fixed.specs.Numbered.{Wrapper}
use Rattle.write_pairs.specs.Run.{run}
use Rattle.write_next.specs.Next.{own, two_of}

module _ {A B : Type 0} (w : Wrapper A B) (n : ℕ) where
  -- what is left from k on
  abbrev ahead : List B → ℕ → ℕ → List B
  ahead items len k = drop k (take len items)

  module _ (items : List B) (len size k : ℕ) (whole : length items ≡ size) (z : B) where
    pub own_is : when (own k len size (w.number (get_or items (k % size) z)) n) (w.entry (get_or items (k % size) z)) ≡ run w n 1 (ahead items len k)
    own_is = go (ltb k (min len size)) refl
      where
        at : (t : Bool) (b : B) → when t (w.entry b) ≡ cond t (w.entry b ∷ []) []
        at true b = refl
        at false b = refl

        go : (t : Bool) → ltb k (min len size) ≡ t
            → when (t && eqb (w.number (get_or items (k % size) z)) n) (w.entry (get_or items (k % size) z)) ≡ run w n 1 (ahead items len k)
        go true e =
            let room = ltb-true k (min len size) e in
            let same : k % size ≡ k = mod-eq_of_lt (omega arith) in
            rw (same, drop-cons (take len items) k z (omega (arith, length-take len items)), get_or-take len items k z (omega arith))
            (at (eqb (w.number (get_or items k z)) n) (get_or items k z))
        go false e = rw (drop_of_length-le (take len items) {i = k} (omega (arith, ltb-false k (min len size) e, length-take len items)))

  run_two : (bs : List B) → two_of (run w n 1 bs) (run w n 1 (drop 1 bs)) ≡ run w n 2 bs
  run_two [] = refl
  run_two (b ∷ bs) = go (eqb (w.number b) n)
    where
      go : (t : Bool) → two_of (cond t (w.entry b ∷ []) []) (run w n 1 bs) ≡ cond t (w.entry b ∷ run w n 1 bs) []
      go true = refl
      go false = refl

  pub two_ahead : (items : List B) (len k : ℕ) → two_of (run w n 1 (ahead items len k)) (run w n 1 (ahead items len (k + 1))) ≡ run w n 2 (ahead items len k)
  two_ahead items len k =
      ap (λ bs. two_of (run w n 1 (ahead items len k)) (run w n 1 bs)) (sym (drop-drop 1 k (take len items))) ∙ run_two (ahead items len k)

  -- none first, so none at all; or at least one
  pub none_ahead : (j : ℕ) (bs : List B) → run w n 1 bs ≡ [] → run w n j bs ≡ []
  none_ahead zero bs e = refl
  none_ahead (suc j) [] e = refl
  none_ahead (suc j) (b ∷ bs) e = go (eqb (w.number b) n) e
    where
      go : (t : Bool) → cond t (w.entry b ∷ []) [] ≡ [] → cond t (w.entry b ∷ run w n j bs) [] ≡ []
      go true e = absurd (omega (arith, ap length e))
      go false e = refl

  pub some_ahead : (j : ℕ) (bs : List B) → 0 < length (run w n 1 bs) → 0 < length (run w n (suc j) bs)
  some_ahead j [] h = absurd (omega arith)
  some_ahead j (b ∷ bs) h = go (eqb (w.number b) n) h
    where
      go : (t : Bool) → 0 < length (cond t (w.entry b ∷ []) []) → 0 < length (cond t (w.entry b ∷ run w n j bs) [])
      go true h = omega arith
      go false h = absurd (omega arith)
