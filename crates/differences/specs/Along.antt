-- What a program makes of a list of bytes whose first stands at the place `at`: a condition on its value, on the bytes left and on their place, and
-- one on the number of its refusal.
use Rattle.std.specs.Prelude.{ℕ, zero, suc, ◌+◌, ◌≤◌, ◌≡◌, refl, Bool, true, false, cond, List, [], ◌∷◌, length, get_or, drop}
use Rattle.std.proofs.Common.{ap, ◌∙◌, add-one, add-zero, arith, drop_of_length-le, drop-cons}
use Rattle.bits.specs.Bytes.{◌!◌}
use Rattle.steps.specs.Steps.{Steps, done, refuse, next, here, ◌>>=◌, Outcome, got, refused, run, ensure}
use Rattle.steps.specs.Answers.{by_next}

abbrev pub Along : {A : Type 0} → (A → List ℕ → ℕ → Type 0) → (ℕ → Type 0) → Steps A → List ℕ → ℕ → Type 0
Along Q F (done a) bs at = Q a bs at
Along Q F (refuse k) bs at = F k
Along Q F (next f) [] at = F 1
Along Q F (next f) (b ∷ bs) at = Along Q F (f b) bs (at + 1)
Along Q F (here f) bs at = Along Q F (f at) bs at

-- the same of an outcome on s
abbrev pub Came : {A : Type 0} → List ℕ → (A → List ℕ → ℕ → Type 0) → (ℕ → Type 0) → Outcome A → Type 0
Came s Q F (got a n) = Q a (drop n s) n
Came s Q F (refused k n) = F k

module _ {A : Type 0} (Q : A → List ℕ → ℕ → Type 0) (F : ℕ → Type 0) where
  pub along : (p : Steps A) (s : List ℕ) (at : ℕ) → Along Q F p (drop at s) at → Came s Q F (run p s at)
  along (done a) s at e = e
  along (refuse k) s at e = e
  along (next f) s at e =
      by_next (Came s Q F) f s at
      (λ h. along (f (get_or s at 0)) s (at + 1) (rw (drop-cons s at 0 h, ← add-one at) at e))
      (λ h. rw (drop_of_length-le s h) at e)
  along (here f) s at e = along (f at) s at e

  pub along_map : (R : A → List ℕ → ℕ → Type 0) (p : Steps A) (bs : List ℕ) (at : ℕ)
      → ((a : A) (cs : List ℕ) (n : ℕ) → Q a cs n → R a cs n) → Along Q F p bs at → Along R F p bs at
  along_map R (done a) bs at h e = h a bs at e
  along_map R (refuse k) bs at h e = e
  along_map R (next f) [] at h e = e
  along_map R (next f) (b ∷ bs) at h e = along_map R (f b) bs (at + 1) h e
  along_map R (here f) bs at h e = along_map R (f at) bs at h e

  pub along_if : (t : Bool) (p q : Steps A) (bs : List ℕ) (at : ℕ) → (t ≡ true → Along Q F p bs at) → (t ≡ false → Along Q F q bs at)
      → Along Q F (cond t p q) bs at
  along_if true p q bs at e h = e refl
  along_if false p q bs at e h = h refl

  -- a test: it holds, or its number is the refusal's
  pub along_ensured : (t : Bool) (k : ℕ) (g : Unit → Steps A) (bs : List ℕ) (at : ℕ) → (t ≡ true → Along Q F (g tt) bs at) → (t ≡ false → F k)
      → Along Q F (ensure t k >>= g) bs at
  along_ensured true k g bs at e h = e refl
  along_ensured false k g bs at e h = h refl

pub along_then : {A B : Type 0} (R : B → List ℕ → ℕ → Type 0) (F : ℕ → Type 0) (p : Steps A) (g : A → Steps B) (bs : List ℕ) (at : ℕ)
    → Along (λ a cs n. Along R F (g a) cs n) F p bs at → Along R F (p >>= g) bs at
along_then R F (done a) g bs at e = e
along_then R F (refuse k) g bs at e = e
along_then R F (next f) g [] at e = e
along_then R F (next f) g (b ∷ bs) at e = along_then R F (f b) g bs (at + 1) e
along_then R F (here f) g bs at e = along_then R F (f at) g bs at e

-- ---- bytes that are spelled out

-- the n bytes of s from k on, then the others
abbrev pub spelled : List ℕ → ℕ → ℕ → List ℕ → List ℕ
spelled s k zero rest = rest
spelled s k (suc n) rest = s ! k ∷ spelled s (k + 1) n rest

pub spell : (s : List ℕ) (k n : ℕ) → k + n ≤ length s → drop k s ≡ spelled s k n (drop (k + n) s)
spell s k zero h = rw (add-zero k)
spell s k (suc n) h =
    let e : k + 1 + n ≡ k + suc n = omega arith in
    drop-cons s k 0 (omega arith) ∙ ap (λ (r : List ℕ). s ! k ∷ r) (rw (← add-one k, ← e) (spell s (k + 1) n (omega arith)))
