-- Laws: packed pairs are read as the list, what is read has bytes, and one answer fits.
use Rattle.std.specs.Prelude.{ℕ, zero, suc, ◌+◌, ◌*◌, ◌<◌, ◌≤◌, ◌≡◌, refl, Bool, true, false, List, [], ◌∷◌, ◌++◌, length, None, Option, Some}
use Rattle.std.proofs.Common.{sym, ap, ap₂, ◌∙◌, append_assoc, append-nil, arith}
use Rattle.fixed.specs.Gather.{gather}
use Rattle.standard_record.specs.declared.StandardTiming.{StandardTiming}
use Rattle.standard_parts.specs.Timings.{pair_of}
use Rattle.standard_parts.specs.declared.Structure.{Structure}
use Rattle.standard_slots.specs.Said.{of_pair, pair_at, pairs_at}
use Rattle.write_leaf.specs.Bytes.{Bytes}
use Rattle.write_parts.specs.Pair.{pair_low, pair_high}
use Rattle.write_parts.specs.Again.{pair_are_bytes}
use Rattle.write_pairs.specs.Pairs.{pairs_bytes, All, ReadFrom, Back, WritesPairs}

-- ---- read back

-- a list that is gathered, by its first turn
gather_first : {A : Type 0} (f : ℕ → List A) (n : ℕ) → gather f (suc n) ≡ f 0 ++ gather (λ i. f (suc i)) n
gather_first f zero = sym (append-nil (f 0))
gather_first f (suc n) = ap (λ xs. xs ++ f (suc n)) (gather_first f n) ∙ append_assoc (f 0) (gather (λ i. f (suc i)) n) (f (suc n))

gather_same : {A : Type 0} (f g : ℕ → List A) → ((i : ℕ) → f i ≡ g i) → (n : ℕ) → gather f n ≡ gather g n
gather_same f g h zero = refl
gather_same f g h (suc n) = ap₂ ◌++◌ (gather_same f g h n) (h n)

-- of two bytes more in front
pairs_first : (σ : Structure) (a b : ℕ) (s : List ℕ) (n : ℕ) → pairs_at σ (a ∷ b ∷ s) 0 (suc n) ≡ of_pair (pair_of σ a b) ++ pairs_at σ s 0 n
pairs_first σ a b s n =
    gather_first (λ i. pair_at σ (a ∷ b ∷ s) (0 + 2 * i)) n
    ∙ ap (λ xs. of_pair (pair_of σ a b) ++ xs) (gather_same _ _ shifted n)
  where
    shifted : (i : ℕ) → pair_at σ (a ∷ b ∷ s) (0 + 2 * suc i) ≡ pair_at σ s (0 + 2 * i)
    shifted i =
        let e : 0 + 2 * suc i ≡ suc (suc (0 + 2 * i)) = omega arith in
        let f : suc (suc (0 + 2 * i)) + 1 ≡ suc (suc (0 + 2 * i + 1)) = omega arith in
        rw (e, f)

skipped : (σ : Structure) → pair_of σ 1 1 ≡ None
unfolding pair_of
skipped σ = refl

pub pairs_back : (σ : Structure) (n : ℕ) (ps : List StandardTiming) (s : List ℕ) → length ps ≤ n → All (Back σ) ps
    → pairs_at σ (pairs_bytes n ps ++ s) 0 n ≡ ps
pairs_back σ zero [] s h b = refl
pairs_back σ zero (p ∷ ps) s h b = absurd (omega arith)
pairs_back σ (suc n) [] s h b = pairs_first σ 1 1 (pairs_bytes n [] ++ s) n ∙ rw (skipped σ) (pairs_back σ n [] s (omega arith) b)
pairs_back σ (suc n) (p ∷ ps) s h b =
    pairs_first σ _ _ (pairs_bytes n ps ++ s) n ∙ rw b.0 (ap (λ xs. p ∷ xs) (pairs_back σ n ps s (omega arith) b.1))

-- ---- what is read has bytes

pub all_append : {A : Type 0} (P : A → Type 0) (xs ys : List A) → All P xs → All P ys → All P (xs ++ ys)
all_append P [] ys h k = k
all_append P (x ∷ xs) ys h k = (h.0, all_append P xs ys h.1 k)

one_read : (σ : Structure) (a b : ℕ) → a < 256 → b < 256 → (p : Option StandardTiming) → pair_of σ a b ≡ p → All (ReadFrom σ) (of_pair p)
one_read σ a b ha hb (Some p) e = (record { first = a; second = b; first_is_byte = ha; second_is_byte = hb; read = e }, tt)
one_read σ a b ha hb None e = tt

pub all_read : (σ : Structure) (s : List ℕ) → Bytes s → (k n : ℕ) → All (ReadFrom σ) (pairs_at σ s k n)
all_read σ s h k zero = tt
all_read σ s h k (suc n) =
    all_append (ReadFrom σ) (pairs_at σ s k n) (pair_at σ s (k + 2 * n)) (all_read σ s h k n) (one_read σ _ _ (h (k + 2 * n)) (h (k + 2 * n + 1)) _ refl)

-- ---- one answer

own_bytes : (σ : Structure) (ps : List StandardTiming) → All (Back σ) ps → All (ReadFrom σ) ps
own_bytes σ [] h = tt
own_bytes σ (p ∷ ps) h =
    let b = pair_are_bytes p in
    (record { first = pair_low p; second = pair_high p; first_is_byte = b.0; second_is_byte = b.1; read = h.0 }, own_bytes σ ps h.1)

pub one_pairs : {σ : Structure} {ps : List StandardTiming} {f g : Bool} {s t : List ℕ} {m n : ℕ} → WritesPairs σ ps f s m → WritesPairs σ ps g t n → (f ≡ g) × (s ≡ t) × (m ≡ n)
one_pairs {σ} {ps} {f} {g} {s} {t} {m} {n} w v = (go f g w v, w.made ∙ sym v.made, w.count ∙ sym v.count)
  where
    go : (f g : Bool) → WritesPairs σ ps f s m → WritesPairs σ ps g t n → f ≡ g
    go true true w v = refl
    go false false w v = refl
    go true false w v = sym (v.complete (own_bytes σ ps (w.sound refl)))
    go false true w v = w.complete (own_bytes σ ps (v.sound refl))
