-- Lists that a loop gathers turn by turn, and the local array and length that hold one.
use Rattle.std.specs.Prelude.{◌≡◌, refl, List, [], ◌∷◌, ◌++◌, Bool, true, false, ℕ, zero, suc, ◌+◌, ◌-◌, ◌*◌, ◌<◌, ◌≤◌, length, set}
use Rattle.std.proofs.Common.{sym, ap, ◌∙◌, append-nil, add-one, arith, length-append}
use Rattle.std.proofs.Math.Seq.{append_snoc}
use Rattle.fixed.specs.Fixed.{pad, count, put_room, more_room, put_pad, more_count, count_at_most, fixed, push, push_fixed}
use Rattle.fixed.specs.declared.Fixed.{Fixed}

module _ {ℓ} {A : Type ℓ} where
  -- f 0, then f 1, up to n of them
  abbrev pub gather : (ℕ → List A) → ℕ → List A
  gather f zero = []
  gather f (suc n) = gather f n ++ f n

  -- one element, where the test holds
  abbrev pub when : Bool → A → List A
  when true a = a ∷ []
  when false a = []

  pub when_at_most : (t : Bool) (a : A) → length (when t a) ≤ 1
  when_at_most true a = omega arith
  when_at_most false a = omega arith

  pub gather_more : (f : ℕ → List A) (n : ℕ) → gather f (n + 1) ≡ gather f n ++ f n
  gather_more f n = rw add-one

  -- at most k a turn
  pub gather_at_most : (f : ℕ → List A) (k : ℕ) → ((i : ℕ) → length (f i) ≤ k) → (n : ℕ) → length (gather f n) ≤ n * k
  gather_at_most f k h zero = omega arith
  gather_at_most f k h (suc n) = omega (arith, length-append (gather f n) (f n), h n, gather_at_most f k h n)

  -- at most k a turn, and none at the first
  pub gather_later : (f : ℕ → List A) (k : ℕ) → f 0 ≡ [] → ((i : ℕ) → length (f i) ≤ k) → (n : ℕ) → length (gather f n) ≤ (n - 1) * k
  gather_later f k none h zero = omega arith
  gather_later f k none h (suc n) = let e : suc n - 1 ≡ n = omega arith in rw e (go n)
    where
      go : (n : ℕ) → length (gather f (suc n)) ≤ n * k
      go zero = omega (arith, ap length none)
      go (suc n) = omega (arith, length-append (gather f (suc n)) (f (suc n)), h (suc n), go n)

  -- the array and the length are the fixed list of xs
  pub record Holds (n : ℕ) (d : A) (xs items : List A) (len : ℕ) : Type ℓ where
    pub are : items ≡ pad n d xs
    pub many : len ≡ count n xs

  -- the length is no more than that of xs
  pub held_at_most : {n : ℕ} {d : A} {xs items : List A} {len : ℕ} → Holds n d xs items len → len ≤ length xs
  held_at_most {n} {xs = xs} h = omega (arith, h.many, count_at_most n xs)

  -- a turn that gives one element, for which there is room, or that gives nothing
  module _ {n : ℕ} {d : A} {xs items : List A} {len : ℕ} (h : Holds n d xs items len) {ys items' : List A} {len' : ℕ} where
    pub took : {v : A} → ys ≡ v ∷ [] → len < n → items' ≡ set items len v → len' ≡ len + 1 → Holds n d (xs ++ ys) items' len'
    took {v} one room is more =
        let room' : count n xs < n = rw h.many at room in
        record {
          are = is ∙ rw (h.are, h.many, one) (sym (put_room n (pad n d xs) (count n xs) v room') ∙ put_pad n d v xs);
          many = more ∙ rw (h.many, one) (sym (more_room n (count n xs) room') ∙ more_count n v xs);
        }

    pub kept : ys ≡ [] → items' ≡ items → len' ≡ len → Holds n d (xs ++ ys) items' len'
    kept nothing is same = record { are = rw (nothing, append-nil) (is ∙ h.are); many = rw (nothing, append-nil) (same ∙ h.many) }

  module _ {n : ℕ} {d : A} {xs items : List A} {len : ℕ} (h : Holds n d xs items len) where
    -- a turn that gives two
    pub took_two : {ys items' : List A} {len' : ℕ} {v u : A} → ys ≡ v ∷ u ∷ [] → len + 1 < n → items' ≡ set (set items len v) (len + 1) u
        → len' ≡ len + 2 → Holds n d (xs ++ ys) items' len'
    took_two {v = v} {u = u} two room is more =
        let one : Holds n d (xs ++ v ∷ []) (set items len v) (len + 1) = took h refl (omega arith) refl refl in
        rw (two, ← append_snoc xs v (u ∷ [])) (took one refl room is (omega (arith, more)))

    -- the same, by other names
    pub renamed : {items' : List A} {len' : ℕ} → items' ≡ items → len' ≡ len → Holds n d xs items' len'
    renamed is same = record { are = is ∙ h.are; many = same ∙ h.many }

-- a turn of a loop that pushes one element where a test holds
module _ {A : Type 0} (n : ℕ) (d : A) (xs : List A) (v : A) {l l' : Fixed A n} {t : Bool} (h : l ≡ fixed n d xs) where
  pub pushed_on : t ≡ true → l' ≡ push n l v → l' ≡ fixed n d (xs ++ when t v)
  pushed_on e p = p ∙ ap (λ l. push n l v) h ∙ push_fixed n d v xs ∙ ap (λ b. fixed n d (xs ++ when b v)) (sym e)

  pub pushed_off : t ≡ false → l' ≡ l → l' ≡ fixed n d (xs ++ when t v)
  pushed_off e p = p ∙ h ∙ ap (fixed n d) (sym (append-nil xs)) ∙ ap (λ b. fixed n d (xs ++ when b v)) (sym e)
