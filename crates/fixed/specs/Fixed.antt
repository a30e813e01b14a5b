-- A fixed list over any element type and any size n: an array of n elements and a length.
-- `pad` and `count` say what the array and the length are of a plain list xs: what does not fit is cut off, past the length stands the filler.
-- `put` and `more` say what a push makes of them; `put-pad` and `more-count`, that a push on the fixed list of xs is the fixed list of xs with
-- one element more; `shown-pad`, that up to its length the fixed list of xs shows xs.
use Rattle.std.specs.Prelude.{◌≡◌, refl, List, [], ◌∷◌, ◌++◌, Bool, true, false, cond, ℕ, zero, suc, ◌+◌, ◌<◌, ◌≤◌, ltb, length, set, take}
use Rattle.std.proofs.Common.{◌∙◌, ap, sym, arith, take_all, lt-ltb, le-ltb, append_assoc, append-nil}
use Rattle.fixed.specs.declared.Fixed.{Fixed}
use Prim.Native.Nat.compare
use Rattle.std.proofs.Math.Dec.{is_le}

module _ {ℓ} {A : Type ℓ} where
  -- the first n of xs, then the filler d
  abbrev pub pad : ℕ → A → List A → List A
  pad zero d xs = []
  pad (suc n) d [] = d ∷ pad n d []
  pad (suc n) d (x ∷ xs) = x ∷ pad n d xs

  -- how many of xs those are
  abbrev pub count : ℕ → List A → ℕ
  count zero xs = 0
  count (suc n) [] = 0
  count (suc n) (x ∷ xs) = suc (count n xs)

  pub count_at_most : (n : ℕ) (xs : List A) → count n xs ≤ length xs
  count_at_most zero xs = omega arith
  count_at_most (suc n) [] = omega arith
  count_at_most (suc n) (x ∷ xs) = omega (arith, count_at_most n xs)

-- the length after a push: a full list stays as it is
abbrev pub more : ℕ → ℕ → ℕ
more n k = cond (ltb k n) (k + 1) k

module _ {ℓ} {A : Type ℓ} where
  -- the array after a push of v at the length k
  abbrev pub put : ℕ → List A → ℕ → A → List A
  put n items k v = cond (ltb k n) (set items k v) items

-- ---- a push in the code: there is room, or none

pub more_room : (n k : ℕ) → k < n → more n k ≡ k + 1
more_room n k h = rw (lt-ltb k n h)

pub more_full : (n k : ℕ) → n ≤ k → more n k ≡ k
more_full n k h = rw (le-ltb k n h)

module _ {ℓ} {A : Type ℓ} where
  pub put_room : (n : ℕ) (items : List A) (k : ℕ) (v : A) → k < n → put n items k v ≡ set items k v
  put_room n items k v h = rw (lt-ltb k n h)

  pub put_full : (n : ℕ) (items : List A) (k : ℕ) (v : A) → n ≤ k → put n items k v ≡ items
  put_full n items k v h = rw (le-ltb k n h)

-- ---- the law, once for every element type and every size

-- the test of a push, one place further on
ltb_suc : (k n : ℕ) → ltb (suc k) (suc n) ≡ ltb k n
ltb_suc k n = ap is_le (compare.suc-suc (suc k) n)

more_suc : (n k : ℕ) → more (suc n) (suc k) ≡ suc (more n k)
more_suc n k = rw ltb_suc (go (ltb k n))
  where
    go : (b : Bool) → cond b (suc k + 1) (suc k) ≡ suc (cond b (k + 1) k)
    go true = omega arith
    go false = refl

module _ {ℓ} {A : Type ℓ} where
  put_cons : (n : ℕ) (x : A) (items : List A) (k : ℕ) (v : A) → put (suc n) (x ∷ items) (suc k) v ≡ x ∷ put n items k v
  put_cons n x items k v = rw ltb_suc (go (ltb k n))
    where
      go : (b : Bool) → cond b (x ∷ set items k v) (x ∷ items) ≡ x ∷ cond b (set items k v) items
      go true = refl
      go false = refl

  -- a push counts one more
  pub more_count : (n : ℕ) (v : A) (xs : List A) → more n (count n xs) ≡ count n (xs ++ v ∷ [])
  more_count zero v xs = refl
  more_count (suc zero) v [] = refl
  more_count (suc (suc n)) v [] = rw (lt-ltb 0 (suc (suc n)) (omega arith))
  more_count (suc n) v (x ∷ xs) = more_suc n (count n xs) ∙ ap suc (more_count n v xs)

  -- a push stores v behind xs
  pub put_pad : (n : ℕ) (d v : A) (xs : List A) → put n (pad n d xs) (count n xs) v ≡ pad n d (xs ++ v ∷ [])
  put_pad zero d v xs = refl
  put_pad (suc n) d v [] = rw (lt-ltb 0 (suc n) (omega arith))
  put_pad (suc n) d v (x ∷ xs) = put_cons n x (pad n d xs) (count n xs) v ∙ ap (λ (t : List A). x ∷ t) (put_pad n d v xs)

  -- the fixed list of xs shows xs, as far as the size goes
  pub shown_pad : (n : ℕ) (d : A) (xs : List A) → take (count n xs) (pad n d xs) ≡ take n xs
  shown_pad zero d xs = refl
  shown_pad (suc n) d [] = refl
  shown_pad (suc n) d (x ∷ xs) = ap (λ (t : List A). x ∷ t) (shown_pad n d xs)

  -- and all of xs, where it fits
  pub shown_whole : (n : ℕ) (d : A) (xs : List A) → length xs ≤ n → take (count n xs) (pad n d xs) ≡ xs
  shown_whole n d xs h = shown_pad n d xs ∙ take_all n xs h

-- ---- the list itself

module _ {A : Type 0} where
  -- of a plain list
  abbrev pub fixed : (n : ℕ) → A → List A → Fixed A n
  fixed n d xs = record { items = pad n d xs; len = count n xs }

  -- a push, which a full list does not take
  unfoldable pub push : (n : ℕ) → Fixed A n → A → Fixed A n
  push n l v = record { items = put n l.items l.len v; len = more n l.len }

  pub push_fixed : (n : ℕ) (d v : A) (xs : List A) → push n (fixed n d xs) v ≡ fixed n d (xs ++ v ∷ [])
  unfolding push
  push_fixed n d v xs = λ i. record { items = put_pad n d v xs i; len = more_count n v xs i }

-- one push after the other, over any element and any holder of a list
abbrev pub pushed : {L A : Type 0} → (L → A → L) → L → List A → L
pushed push l [] = l
pushed push l (x ∷ xs) = pushed push (push l x) xs

pub pushed_append : {L A : Type 0} (push : L → A → L) (l : L) (xs ys : List A) → pushed push (pushed push l xs) ys ≡ pushed push l (xs ++ ys)
pushed_append push l [] ys = refl
pushed_append push l (x ∷ xs) ys = pushed_append push (push l x) xs ys

-- elements go behind those that are there
pub pushed_fixed : {A : Type 0} (n : ℕ) (d : A) (ys xs : List A) → pushed (push n) (fixed n d ys) xs ≡ fixed n d (ys ++ xs)
pushed_fixed n d ys [] = ap (fixed n d) (sym (append-nil ys))
pushed_fixed n d ys (x ∷ xs) =
    ap (λ l. pushed (push n) l xs) (push_fixed n d x ys) ∙ pushed_fixed n d (ys ++ x ∷ []) xs ∙ ap (fixed n d) (append_assoc ys (x ∷ []) xs)
