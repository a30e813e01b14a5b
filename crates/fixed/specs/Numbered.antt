-- Lists that are gathered turn by turn, with the number of its turn beside each entry, counted from 1; 0 is for what stands before the first turn.
use Rattle.std.specs.Prelude.{◌≡◌, refl, Bool, true, false, cond, ℕ, zero, suc, ◌+◌, ◌-◌, ◌*◌, ◌<◌, ◌≤◌, eqb, ltb, length}
use Rattle.std.proofs.Common.{sym, ap, ◌∙◌, arith, length-append, eq-eqb, ne_eqb, ltb-true, ltb-false}
use mathlib.Core.List.{List, [], ◌∷◌, ◌++◌, map, append-nil, append_assoc, nil≢cons, cons≢nil, head-eq_of_cons-eq, tail-eq_of_cons-eq}
use Rattle.std.proofs.lemmas.List.{length-map}
use Rattle.fixed.specs.Gather.{gather, gather_at_most, gather_later}

-- B is A with a number beside it
pub record Wrapper (A B : Type 0) : Type 0 where
  pub wrap : ℕ → A → B
  pub number : B → ℕ
  pub entry : B → A
  pub number_is : (n : ℕ) (a : A) → number (wrap n a) ≡ n
  pub entry_is : (n : ℕ) (a : A) → entry (wrap n a) ≡ a
  pub whole : (b : B) → wrap (number b) (entry b) ≡ b

module _ {A B : Type 0} (w : Wrapper A B) where
  -- turn i gives f i, numbered i + 1
  abbrev pub turns : (ℕ → List A) → ℕ → List B
  turns f n = gather (λ i. map (w.wrap (i + 1)) (f i)) n

  -- the entries numbered n, in their order
  abbrev pub numbered : ℕ → List B → List A
  numbered n [] = []
  numbered n (b ∷ bs) = cond (eqb (w.number b) n) (w.entry b ∷ numbered n bs) (numbered n bs)

  -- from n up to m the numbers never fall
  abbrev pub NeverFalls : ℕ → ℕ → List B → Type 0
  NeverFalls n m [] = n ≤ m
  NeverFalls n m (b ∷ bs) = (n ≤ w.number b) × NeverFalls (w.number b) m bs

-- ---- the law, once for every element type

module _ {A B : Type 0} (w : Wrapper A B) where
  turns_length : (f : ℕ → List A) (n : ℕ) → length (turns w f n) ≡ length (gather f n)
  turns_length f zero = refl
  turns_length f (suc n) = simp (length-append, length-map) (ap (λ k. k + length (f n)) (turns_length f n))

  pub turns_at_most : (f : ℕ → List A) (k : ℕ) → ((i : ℕ) → length (f i) ≤ k) → (n : ℕ) → length (turns w f n) ≤ n * k
  turns_at_most f k h n = rw turns_length (gather_at_most f k h n)

  pub turns_later : (f : ℕ → List A) (k : ℕ) → f 0 ≡ [] → ((i : ℕ) → length (f i) ≤ k) → (n : ℕ) → length (turns w f n) ≤ (n - 1) * k
  turns_later f k none h n = rw turns_length (gather_later f k none h n)

  from_below : (k n m : ℕ) (bs : List B) → k ≤ n → NeverFalls w n m bs → NeverFalls w k m bs
  from_below k n m [] h r = omega (arith, r)
  from_below k n m (b ∷ bs) h r = (omega (arith, r.0), r.1)

  never_falls_append : (k n m : ℕ) (bs cs : List B) → NeverFalls w k n bs → NeverFalls w n m cs → NeverFalls w k m (bs ++ cs)
  never_falls_append k n m [] cs h r = from_below k n m cs h r
  never_falls_append k n m (b ∷ bs) cs h r = (h.0, never_falls_append (w.number b) n m bs cs h.1 r)

  never_falls_own : (n k m : ℕ) → n ≤ k → k ≤ m → (xs : List A) → NeverFalls w n m (map (w.wrap k) xs)
  never_falls_own n k m h l [] = omega arith
  never_falls_own n k m h l (x ∷ xs) = rw w.number_is (h, never_falls_own k k m (omega arith) l xs)

  numbered_append : (n : ℕ) (bs cs : List B) → numbered w n (bs ++ cs) ≡ numbered w n bs ++ numbered w n cs
  numbered_append n [] cs = refl
  numbered_append n (b ∷ bs) cs = rw (numbered_append n bs cs) (go (eqb (w.number b) n))
    where
      go : (t : Bool)
          → cond t (w.entry b ∷ (numbered w n bs ++ numbered w n cs)) (numbered w n bs ++ numbered w n cs)
          ≡ cond t (w.entry b ∷ numbered w n bs) (numbered w n bs) ++ numbered w n cs
      go true = refl
      go false = refl

  numbered_own : (n : ℕ) (xs : List A) → numbered w n (map (w.wrap n) xs) ≡ xs
  numbered_own n [] = refl
  numbered_own n (x ∷ xs) = rw (w.number_is, w.entry_is, eq-eqb n n refl) (ap (λ t. x ∷ t) (numbered_own n xs))

  numbered_other : (k n : ℕ) → (k ≡ n → ⊥) → (xs : List A) → numbered w n (map (w.wrap k) xs) ≡ []
  numbered_other k n h [] = refl
  numbered_other k n h (x ∷ xs) = rw (w.number_is, ne_eqb k n h) (numbered_other k n h xs)

  module _ (f : ℕ → List A) where
    turns_none : (k n : ℕ) → ((i : ℕ) → i < n → i + 1 ≡ k → ⊥) → numbered w k (turns w f n) ≡ []
    turns_none k zero h = refl
    turns_none k (suc n) h =
        numbered_append k (turns w f n) (map (w.wrap (n + 1)) (f n))
        ∙ rw (turns_none k n (λ i l. h i (omega arith)), numbered_other (n + 1) k (h n (omega arith)) (f n))

    turns_own : (n i : ℕ) → i < n → numbered w (i + 1) (turns w f n) ≡ f i
    turns_own zero i h = absurd (omega arith)
    turns_own (suc n) i h = numbered_append (i + 1) (turns w f n) (map (w.wrap (n + 1)) (f n)) ∙ go (ltb i n) refl (turns_own n i)
      where
        go : (t : Bool) → ltb i n ≡ t → (i < n → numbered w (i + 1) (turns w f n) ≡ f i)
            → numbered w (i + 1) (turns w f n) ++ numbered w (i + 1) (map (w.wrap (n + 1)) (f n)) ≡ f i
        go true e own =
            let l = ltb-true i n e in
            rw (own l, numbered_other (n + 1) (i + 1) (λ z. omega arith) (f n), append-nil)
        go false e own =
            let z : i ≡ n = omega (arith, ltb-false i n e) in
            rw (z, turns_none (n + 1) n (λ j l y. omega arith), numbered_own)

  -- along bs the numbers never fall, from 0 up to n; those numbered 0 are `front`, those numbered i + 1 are f i
  pub record Told (front : List A) (f : ℕ → List A) (n : ℕ) (bs : List B) : Type 0 where
    pub never_falls : NeverFalls w 0 n bs
    pub before : numbered w 0 bs ≡ front
    pub turn : (i : ℕ) → i < n → numbered w (i + 1) bs ≡ f i

  pub told : (front : List A) (f : ℕ → List A) (n : ℕ) → Told front f n (map (w.wrap 0) front ++ turns w f n)
  told front f n =
      record {
        never_falls = rising n;
        before =
            numbered_append 0 (map (w.wrap 0) front) (turns w f n)
            ∙ rw (numbered_own, turns_none f 0 n (λ i l e. omega arith), append-nil);
        turn = λ i h.
            numbered_append (i + 1) (map (w.wrap 0) front) (turns w f n)
            ∙ rw (numbered_other 0 (i + 1) (λ e. omega arith) front, turns_own f n i h);
      }
    where
      rising : (n : ℕ) → NeverFalls w 0 n (map (w.wrap 0) front ++ turns w f n)
      rising zero = rw append-nil (never_falls_own 0 0 0 (omega arith) (omega arith) front)
      rising (suc n) =
          rw (← append_assoc)
          (never_falls_append 0 n (suc n) (map (w.wrap 0) front ++ turns w f n) (map (w.wrap (n + 1)) (f n))
          (rising n) (never_falls_own n (n + 1) (suc n) (omega arith) (omega arith) (f n)))

-- ---- where the numbers never fall, the list is known by its entries, number by number

tails : {A : Type 0} (t : Bool) (x y : A) {xs ys : List A} → cond t (x ∷ xs) xs ≡ cond t (y ∷ ys) ys → xs ≡ ys
tails true x y e = tail-eq_of_cons-eq e
tails false x y e = e

module _ {A B : Type 0} (w : Wrapper A B) (m : ℕ) where
  up_to : (n : ℕ) (bs : List B) → NeverFalls w n m bs → n ≤ m
  up_to n [] r = r
  up_to n (b ∷ bs) r = omega (arith, r.0, up_to (w.number b) bs r.1)

  none_before : (k n : ℕ) (bs : List B) → k < n → NeverFalls w n m bs → numbered w k bs ≡ []
  none_before k n [] h r = refl
  none_before k n (b ∷ bs) h r =
      rw (ne_eqb (w.number b) k (λ e. omega (arith, r.0))) (none_before k (w.number b) bs (omega (arith, r.0)) r.1)

  -- the first number of a list, of which another has an entry, is not above it
  first_at_most : (b c : B) (bs cs : List B) → NeverFalls w (w.number b) m bs
      → numbered w (w.number c) (b ∷ bs) ≡ numbered w (w.number c) (c ∷ cs) → w.number b ≤ w.number c
  first_at_most b c bs cs r e = go (ltb (w.number c) (w.number b)) refl
    where
      go : (t : Bool) → ltb (w.number c) (w.number b) ≡ t → w.number b ≤ w.number c
      go true l =
          let h = ltb-true (w.number c) (w.number b) l in
          absurd (nil≢cons (sym (none_before (w.number c) (w.number b) (b ∷ bs) h (omega arith, r)) ∙ rw (eq-eqb (w.number c) (w.number c) refl) at e))
      go false l = ltb-false (w.number c) (w.number b) l

  pub known_by_numbers : (n : ℕ) (bs cs : List B) → NeverFalls w n m bs → NeverFalls w n m cs
      → ((k : ℕ) → n ≤ k → k ≤ m → numbered w k bs ≡ numbered w k cs) → bs ≡ cs
  known_by_numbers n [] [] r q h = refl
  known_by_numbers n [] (c ∷ cs) r q h =
      absurd (nil≢cons (rw (eq-eqb (w.number c) (w.number c) refl) at (h (w.number c) q.0 (up_to (w.number c) cs q.1))))
  known_by_numbers n (b ∷ bs) [] r q h =
      absurd (cons≢nil (rw (eq-eqb (w.number b) (w.number b) refl) at (h (w.number b) r.0 (up_to (w.number b) bs r.1))))
  known_by_numbers n (b ∷ bs) (c ∷ cs) r q h =
      let at_b = h (w.number b) r.0 (up_to (w.number b) bs r.1) in
      let at_c = h (w.number c) q.0 (up_to (w.number c) cs q.1) in
      let same : w.number b ≡ w.number c =
      omega (arith, first_at_most b c bs cs r.1 at_c, first_at_most c b cs bs q.1 (sym at_b)) in
      let entry : w.entry b ≡ w.entry c = head-eq_of_cons-eq (rw (same, eq-eqb (w.number c) (w.number c) refl) at at_b) in
      let first : b ≡ c = sym (w.whole b) ∙ (λ i. w.wrap (same i) (entry i)) ∙ w.whole c in
      let rest : bs ≡ cs =
      known_by_numbers (w.number c) bs cs (rw same at r.1) q.1
      (λ k l u. tails (eqb (w.number c) k) (w.entry b) (w.entry c) (rw same at (h k (omega (arith, q.0)) u))) in
      λ i. first i ∷ rest i
