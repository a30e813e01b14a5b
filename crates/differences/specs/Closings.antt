-- How descriptors end: what the crate reading lets pass the standard reading lets pass too, and what it refuses is refused there with the same number,
-- but for a text that is filled up with something else than spaces.
use Prim.Native.Nat.{ℕ, zero, suc, ◌+◌, ◌-◌, ◌*◌}
use Rattle.std.specs.Prelude.{◌≡◌, Bool, true, false, ◌||◌, cond, eqb, Ok, Err}
use Rattle.std.proofs.Math.Path.{refl}
use Rattle.std.proofs.Common.{ap}
use Rattle.std.proofs.lemmas.Bool.{false≢true}
use mathlib.Core.List.{List, [], ◌∷◌, ◌++◌}
use Rattle.std.proofs.Math.Nat.{suc-add}
use native.Mathlib.Omega.{arith}
use Rattle.std.proofs.Math.ListN.{length, drop, length-drop}
use borrow.Author.Tests.{eqb-true, eqb-false, eq-eqb}
use Rattle.steps.specs.Steps.{Steps, done, ◌>>=◌}
use Rattle.steps.specs.Leaves.{byte, word}
use Rattle.steps.specs.declared.Span.{Span}
use Rattle.crate_text.specs.Text.{scan, padding, text}
use Rattle.crate_descriptors.specs.Descriptors.{spaces, closing}
use Rattle.standard_parts.specs.Text.{text_length, all_spaces, spaces_or, is_padded}
use Rattle.standard_parts.specs.Descriptors.{closing_refusal}
use Rattle.write_leaf.specs.Bytes.{Bytes}
use Rattle.differences.specs.Along.{Along, along_map, along_then, along_if, along_ensured}

-- ds is taken, with these spaces
abbrev Spaced : List ℕ → List ℕ → ℕ → List ℕ → ℕ → Type 0
Spaced ds rest at es n = (es ≡ rest) × (n ≡ at + length ds) × (all_spaces ds ≡ true)

-- the 13 bytes cs are taken, and are the text t
abbrev pub TextRead : List ℕ → List ℕ → ℕ → Span → List ℕ → ℕ → Type 0
TextRead cs rest at t es n = (t ≡ record { start = at; len = text_length cs }) × (es ≡ rest) × (n ≡ at + 13) × (is_padded cs (text_length cs) ≡ true)

-- cs is what a scan may take, len what it passes
abbrev Scanned : List ℕ → List ℕ → ℕ → ℕ → ℕ → List ℕ → ℕ → Type 0
Scanned cs rest i at len ds n =
    let left = drop (text_length cs + 1) cs in
    (len ≡ i + text_length cs) × (ds ≡ left ++ rest) × (n + length left ≡ at + length cs)

-- spaces are spaces or zeros
either_fill : (ds : List ℕ) → all_spaces ds ≡ true → spaces_or 0x00 ds ≡ true
either_fill [] h = refl
either_fill (d ∷ ds) h = go (eqb d 0x20) h (either_fill ds)
  where
    go : (t : Bool) → cond t (all_spaces ds) false ≡ true → (all_spaces ds ≡ true → spaces_or 0x00 ds ≡ true)
        → cond (t || eqb d 0x00) (spaces_or 0x00 ds) false ≡ true
    go true h same = same h
    go false h same = absurd (false≢true h)

-- one test of a word is two of its bytes
not_two : (a b : ℕ) (more : Bool) → eqb (a + 256 * b) 0x2020 ≡ false → cond (eqb a 0x20) (cond (eqb b 0x20) more false) false ≡ false
not_two a b more h = go (eqb a 0x20) (eqb b 0x20) refl refl
  where
    go : (p q : Bool) → eqb a 0x20 ≡ p → eqb b 0x20 ≡ q → cond p (cond q more false) false ≡ false
    go true true e f = absurd (eqb-false (a + 256 * b) 0x2020 h (omega (arith, eqb-true a 0x20 e, eqb-true b 0x20 f)))
    go true false e f = refl
    go false q e f = refl

module _ (F : ℕ → Type 0) where
  -- ---- a text

  scan_along : (cs rest : List ℕ) (i at : ℕ) → Along (Scanned cs rest i at) F (scan (length cs) i) (cs ++ rest) at
  unfolding scan byte
  scan_along [] rest i at = (omega arith, refl, omega arith)
  scan_along (c ∷ cs) rest i at =
      along_if (Scanned (c ∷ cs) rest i at) F (eqb c 0x0a) (done i) (scan (length cs) (i + 1)) (cs ++ rest) (at + 1)
      (λ e. rw e (omega arith, refl, omega arith))
      (λ e. along_map (Scanned cs rest (i + 1) (at + 1)) F _ (scan (length cs) (i + 1)) (cs ++ rest) (at + 1)
      (λ len ds n r. rw (e, suc-add (text_length cs) 1) (omega (arith, r.0), r.1, omega (arith, r.2))) (scan_along cs rest (i + 1) (at + 1)))

  padding_along : (ds rest : List ℕ) (at : ℕ) → (all_spaces ds ≡ false → F 5)
      → Along (λ _ es n. Spaced ds rest at es n) F (padding (length ds)) (ds ++ rest) at
  unfolding padding byte
  padding_along [] rest at five = (refl, omega arith, refl)
  padding_along (d ∷ ds) rest at five =
      along_ensured (λ _ es n. Spaced (d ∷ ds) rest at es n) F (eqb d 0x20) 5 (λ _. padding (length ds)) (ds ++ rest) (at + 1)
      (λ e. rw e (along_map (λ _ es n. Spaced ds rest (at + 1) es n) F _ (padding (length ds)) (ds ++ rest) (at + 1)
      (λ _ es n r. (r.0, omega (arith, r.1), r.2)) (padding_along ds rest (at + 1) (λ q. five (rw e q))))) (λ e. five (rw e))

  -- a text of the 13 bytes cs
  pub text_along : (cs rest : List ℕ) (at : ℕ) → length cs ≡ 13 → (all_spaces (drop (text_length cs + 1) cs) ≡ false → F 5)
      → Along (TextRead cs rest at) F text (cs ++ rest) at
  unfolding text
  text_along cs rest at h five =
      along_then _ F (scan 13 0) _ (cs ++ rest) at
      (along_map (Scanned cs rest 0 at) F _ (scan 13 0) (cs ++ rest) at
      (λ len ds n r.
      let left = drop (text_length cs + 1) cs in
      let all : length left ≡ 12 - len = omega (arith, r.0, h, length-drop (text_length cs + 1) cs) in
      along_then _ F (padding (12 - len)) _ ds n
      (along_map (λ _ es m. Spaced left rest n es m) F _ (padding (12 - len)) ds n
      (λ _ es m q. (ap (λ (k : ℕ). record { start = at; len = k }) (omega (arith, r.0)), q.0, omega (arith, q.1, r.2, h), either_fill left q.2))
      (rw (← all, r.1) (padding_along left rest n five))))
      (rw (← h) (scan_along cs rest 0 at)))

  -- ---- 0x0a and words of spaces

  spaces_along : (n : ℕ) (ds rest : List ℕ) (at : ℕ) → length ds ≡ n * 2 → Bytes ds → (all_spaces ds ≡ false → F 5)
      → Along (λ _ es m. Spaced ds rest at es m) F (spaces n) (ds ++ rest) at
  unfolding spaces word byte
  spaces_along zero [] rest at h l five = (refl, omega arith, refl)
  spaces_along zero (a ∷ ds) rest at h l five = absurd (omega arith)
  spaces_along (suc n) [] rest at h l five = absurd (omega arith)
  spaces_along (suc n) (a ∷ []) rest at h l five = absurd (omega arith)
  spaces_along (suc n) (a ∷ b ∷ ds) rest at h l five =
      along_ensured (λ _ es m. Spaced (a ∷ b ∷ ds) rest at es m) F (eqb (a + 256 * b) 0x2020) 5 (λ _. spaces n) (ds ++ rest) (at + 1 + 1)
      (λ e.
      let w : a + 256 * b ≡ 0x2020 = eqb-true _ _ e in
      let first = eq-eqb a 0x20 (omega (arith, l 0, l 1)) in
      let second = eq-eqb b 0x20 (omega (arith, l 0, l 1)) in
      rw (first, second)
      (along_map (λ _ es m. Spaced ds rest (at + 1 + 1) es m) F _ (spaces n) (ds ++ rest) (at + 1 + 1)
      (λ _ es m r. (r.0, omega (arith, r.1), r.2)) (spaces_along n ds rest (at + 1 + 1) (omega arith) (λ k. l (suc (suc k))) (λ q. five (rw (first, second) q))))) (λ e. five (not_two a b (all_spaces ds) e))

  -- a closing, and what follows it
  pub closing_then : {B : Type 0} (R : B → List ℕ → ℕ → Type 0) (g : Unit → Steps B) (n b : ℕ) (ds rest : List ℕ) (at : ℕ) → length ds ≡ n * 2
      → Bytes ds → (closing_refusal b (all_spaces ds) ≡ Err 4 → F 4) → (closing_refusal b (all_spaces ds) ≡ Err 5 → F 5)
      → ((m : ℕ) → m ≡ at + 1 + length ds → closing_refusal b (all_spaces ds) ≡ Ok tt → Along R F (g tt) rest m)
      → Along R F (closing n >>= g) (b ∷ (ds ++ rest)) at
  unfolding closing byte closing_refusal
  closing_then R g n b ds rest at h l four five next =
      along_then R F (closing n) g (b ∷ (ds ++ rest)) at
      (along_ensured _ F (eqb b 0x0a) 4 (λ _. spaces n) (ds ++ rest) (at + 1)
      (λ e. along_map (λ _ es m. Spaced ds rest (at + 1) es m) F _ (spaces n) (ds ++ rest) (at + 1)
      (λ _ es m r. rw r.0 (next m r.1 (rw (e, r.2)))) (spaces_along n ds rest (at + 1) h l (λ q. five (rw (e, q))))) (λ e. four (rw e)))
