-- A turn of each search of a text, and what the searches come to. Assumes nothing.
use Rattle.std.proofs.Common.{◌≡◌, refl, sym, ap, ◌∙◌, ℕ, zero, suc, ◌+◌, ◌<◌, ◌≤◌, Bool, true, false, eqb, List, length, get_or, drop, add-one, drop-cons, Option, Some, None, MatchBool, MatchOption, HoldsAt, arith}
use lib.ListN.{drop_of_length-le}
use Rattle.std.specs.List.{AllWithin}
use Rattle.std.specs.Prelude.{unwrap_or}
use Rattle.standard_parts.specs.Text.{text_length, every}

-- ---- a turn of each

-- i bytes are passed, and none of them is 0x0a
module _ (s : List ℕ) (i : ℕ) (so_far : text_length s ≡ i + text_length (drop i s)) where
  pub text_more : i < length s → eqb (get_or s i 0) 0x0a ≡ false → text_length s ≡ i + 1 + text_length (drop (i + 1) s)
  text_more h e =
      let on : text_length (drop i s) ≡ suc (text_length (drop (i + 1) s)) = rw (add-one, drop-cons s i 0, e) in
      omega arith

  pub text_stop : i < length s → eqb (get_or s i 0) 0x0a ≡ true → i ≡ text_length s
  text_stop h e =
      let here : text_length (drop i s) ≡ 0 = rw (drop-cons s i 0, e) in
      omega arith

  pub text_all : length s ≤ i → i ≡ text_length s
  text_all h =
      let none : text_length (drop i s) ≡ 0 = rw (drop_of_length-le s h) in
      omega arith

module _ (passes : ℕ → Bool) (s : List ℕ) (i : ℕ) where
  pub every_not : i < length s → passes (get_or s i 0) ≡ false → every passes (drop i s) ≡ false
  every_not h e = rw (drop-cons s i 0, e)

  pub every_on : i < length s → passes (get_or s i 0) ≡ true → every passes (drop i s) ≡ every passes (drop (i + 1) s)
  every_on h e = rw (add-one, drop-cons s i 0, e)

  pub every_end : length s ≤ i → every passes (drop i s) ≡ true
  every_end h = rw (drop_of_length-le s h)

-- ---- the whole

-- each passes, or one does not
pub every_is : (passes : ℕ → Bool) (s : List ℕ) (r : Bool)
    → MatchBool r (AllWithin (λ b. passes b ≡ true) s 0 (length s)) ((k : ℕ) × (k < length s) × HoldsAt (λ b. passes b ≡ false) s k)
    → r ≡ every passes s
every_is passes s true h = sym (all (length s) (omega arith) ∙ every_end passes s (length s) (omega arith))
  where
    all : (i : ℕ) → i ≤ length s → every passes s ≡ every passes (drop i s)
    all zero m = refl
    all (suc i) m = rw (← add-one) (all i (omega arith) ∙ every_on passes s i (omega arith) (h i 0 (omega arith) (omega arith)))
every_is passes s false h = sym (some h.0 0 (omega arith))
  where
    -- n bytes on is one that does not
    some : (n i : ℕ) → i + n ≡ h.0 → every passes (drop i s) ≡ false
    some zero i e = let k : i ≡ h.0 = omega arith in every_not passes s i (omega (arith, h.1)) (ap (λ (j : ℕ). passes (get_or s j 0)) k ∙ h.2 0)
    some (suc n) i e = go (passes (get_or s i 0)) refl (some n (i + 1) (omega arith))
      where
        go : (t : Bool) → passes (get_or s i 0) ≡ t → every passes (drop (i + 1) s) ≡ false → every passes (drop i s) ≡ false
        go true p later = every_on passes s i (omega (arith, h.1)) p ∙ later
        go false p later = every_not passes s i (omega (arith, h.1)) p

-- i bytes on none is 0x0a
passed : (s : List ℕ) (i : ℕ) → i ≤ length s → AllWithin (λ b. eqb b 0x0a ≡ false) s 0 i → text_length s ≡ i + text_length (drop i s)
passed s zero m h = omega arith
passed s (suc i) m h =
    rw (← add-one) (text_more s i (passed s i (omega arith) (λ k d l m. h k d l (omega arith))) (omega arith) (h i 0 (omega arith) (omega arith)))

-- the first 0x0a, or the end
pub text_length_is : (s : List ℕ) (r : Option ℕ)
    → MatchOption r (AllWithin (λ b. eqb b 0x0a ≡ false) s 0 (length s)) (λ i. (i < length s) × HoldsAt (λ b. eqb b 0x0a ≡ true) s i × AllWithin (λ b. eqb b 0x0a ≡ false) s 0 i)
    → unwrap_or r (length s) ≡ text_length s
text_length_is s None h = text_all s (length s) (passed s (length s) (omega arith) h) (omega arith)
text_length_is s (Some i) h = text_stop s i (passed s i (omega (arith, h.0)) h.2) h.0 (h.1 0)
