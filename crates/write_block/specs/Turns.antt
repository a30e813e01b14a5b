-- Lists that are used up turn by turn, over any entries.
use Rattle.std.specs.Prelude.{ℕ, zero, suc, ◌+◌, ◌<◌, ◌≤◌, ◌≡◌, refl, Bool, true, false, cond, List, [], ◌∷◌, ◌++◌, map, eqb, length, drop}
use Rattle.std.proofs.Common.{sym, ap, ap₂, ◌∙◌, append-nil, append_assoc, arith}
use Rattle.std.proofs.lemmas.List.{map-append, length-map}
use Rattle.std.proofs.Math.Seq.{drop-append_seam}
use Rattle.fixed.specs.Gather.{gather}
use Rattle.fixed.specs.Numbered.{Wrapper, turns}
use Rattle.write_pairs.specs.Run.{run, Other}
use Rattle.write_pairs.specs.Pairs.{All}
use Rattle.write_pairs.specs.Laws.{all_append}

pub gather_same : {A : Type 0} (f g : ℕ → List A) (n : ℕ) → ((i : ℕ) → i < n → f i ≡ g i) → gather f n ≡ gather g n
gather_same f g zero h = refl
gather_same f g (suc n) h = ap₂ ◌++◌ (gather_same f g n (λ i l. h i (omega arith))) (h n (omega arith))

pub map_drop : {A B : Type 0} (f : A → B) (k : ℕ) (xs : List A) → map f (drop k xs) ≡ drop k (map f xs)
map_drop f zero xs = refl
map_drop f (suc k) [] = refl
map_drop f (suc k) (x ∷ xs) = map_drop f k xs

module _ {A B : Type 0} (w : Wrapper A B) where
  pub turns_same : (f g : ℕ → List A) (n : ℕ) → ((i : ℕ) → i < n → f i ≡ g i) → turns w f n ≡ turns w g n
  turns_same f g n h = gather_same _ _ n (λ i l. ap (map (w.wrap (i + 1))) (h i l))

  -- turn i takes f i, numbered i + 1, from the front of what is left
  pub used : (left : ℕ → List B) (f : ℕ → List A) → ((i : ℕ) → left i ≡ map (w.wrap (i + 1)) (f i) ++ left (suc i))
      → (n : ℕ) → left 0 ≡ turns w f n ++ left n
  used left f h zero = refl
  used left f h (suc n) =
      used left f h n ∙ ap (λ xs. turns w f n ++ xs) (h n) ∙ sym (append_assoc (turns w f n) (map (w.wrap (n + 1)) (f n)) (left (suc n)))

  -- the k turns from turn i on
  abbrev pub later : (ℕ → List A) → ℕ → ℕ → List B
  later f i zero = []
  later f i (suc k) = map (w.wrap (i + 1)) (f i) ++ later f (suc i) k

  turns_and_later : (f : ℕ → List A) (i k : ℕ) → turns w f i ++ later f i k ≡ turns w f (i + k)
  turns_and_later f i zero = let e : i + 0 ≡ i = omega arith in rw (e, append-nil)
  turns_and_later f i (suc k) =
      let e : i + suc k ≡ suc i + k = omega arith in
      rw e (sym (append_assoc (turns w f i) (map (w.wrap (i + 1)) (f i)) (later f (suc i) k)) ∙ turns_and_later f (suc i) k)

  pub turns_later : (f : ℕ → List A) (k : ℕ) → turns w f k ≡ later f 0 k
  turns_later f k = let e : 0 + k ≡ k = omega arith in sym (rw e at (turns_and_later f 0 k))

  -- what comes later has higher numbers
  pub other_later : (f : ℕ → List A) (n i k : ℕ) → n ≤ i → Other w n (later f i k)
  other_later f n i zero h = tt
  other_later f n i (suc k) h = go (f i) (other_later f n (suc i) k (omega arith))
    where
      go : (xs : List A) → Other w n (later f (suc i) k) → Other w n (map (w.wrap (i + 1)) xs ++ later f (suc i) k)
      go [] o = o
      go (x ∷ xs) o = λ e. omega (arith, w.number_is (i + 1) x, e)

  pub drop_own : (n : ℕ) (xs : List A) (bs : List B) → drop (length xs) (map (w.wrap n) xs ++ bs) ≡ bs
  drop_own n xs bs = rw (← length-map xs (w.wrap n)) (drop-append_seam (map (w.wrap n) xs) bs)

-- ---- entries changed one by one, their numbers kept

module _ {A B C D : Type 0} (w : Wrapper A B) (v : Wrapper C D) (f : A → C) (g : B → D)
    (numbers : (b : B) → v.number (g b) ≡ w.number b) (changed : (b : B) → v.entry (g b) ≡ f (w.entry b))
    (wrapped : (n : ℕ) (a : A) → g (w.wrap n a) ≡ v.wrap n (f a)) where
  pub run_map : (n k : ℕ) (bs : List B) → map f (run w n k bs) ≡ run v n k (map g bs)
  run_map n zero bs = refl
  run_map n (suc k) [] = refl
  run_map n (suc k) (b ∷ bs) = rw (numbers b, changed b, ← run_map n k bs) (go (eqb (w.number b) n))
    where
      go : (t : Bool) → map f (cond t (w.entry b ∷ run w n k bs) []) ≡ cond t (f (w.entry b) ∷ map f (run w n k bs)) []
      go true = refl
      go false = refl

  own_map : (n : ℕ) (xs : List A) → map g (map (w.wrap n) xs) ≡ map (v.wrap n) (map f xs)
  own_map n [] = refl
  own_map n (x ∷ xs) = ap₂ ◌∷◌ (wrapped n x) (own_map n xs)

  pub turns_map : (h : ℕ → List A) (n : ℕ) → map g (turns w h n) ≡ turns v (λ i. map f (h i)) n
  turns_map h zero = refl
  turns_map h (suc n) = map-append g (turns w h n) (map (w.wrap (n + 1)) (h n)) ∙ ap₂ ◌++◌ (turns_map h n) (own_map (n + 1) (h n))

-- P of each entry is Q of each wrapped one
pub all_wrapped : {A B : Type 0} (w : Wrapper A B) (P : A → Type 0) (Q : B → Type 0) → ((n : ℕ) (a : A) → P a → Q (w.wrap n a))
    → (n : ℕ) (xs : List A) → All P xs → All Q (map (w.wrap n) xs)
all_wrapped w P Q q n [] a = tt
all_wrapped w P Q q n (x ∷ xs) a = (q n x a.0, all_wrapped w P Q q n xs a.1)

-- P of the entries of each turn is P of all
pub all_turns : {A B : Type 0} (w : Wrapper A B) (P : A → Type 0) (Q : B → Type 0) → ((n : ℕ) (a : A) → P a → Q (w.wrap n a))
    → (f : ℕ → List A) (n : ℕ) → ((i : ℕ) → i < n → All P (f i)) → All Q (turns w f n)
all_turns w P Q q f zero h = tt
all_turns w P Q q f (suc n) h =
    all_append Q (turns w f n) (map (w.wrap (n + 1)) (f n)) (all_turns w P Q q f n (λ i l. h i (omega arith))) (all_wrapped w P Q q (n + 1) (f n) (h n (omega arith)))
