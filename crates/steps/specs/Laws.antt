-- Laws of `run`: a byte is there, or not; one program after the other.
use Rattle.std.specs.Prelude.{ℕ, suc, ◌+◌, ◌-◌, ◌≤◌, ◌<◌, ◌≡◌, Bool, true, false, ◌||◌, cond, List, ltb, length, get_or, Result, Err}
use Rattle.std.proofs.Common.{arith, sym, ◌∙◌, subst, lt-ltb, le-ltb, ltb-true, ltb-false}
use Rattle.std.proofs.Math.Path.{refl, ap}
use Rattle.steps.specs.Steps.{Steps, done, refuse, next, here, ◌>>=◌, Outcome, refused, run, and_then, ensure}
use Rattle.steps.specs.Leaves.{byte, two, four, outcome, ended, Filled, Beside}
use Rattle.steps.specs.declared.Refusal.{Refusal}

module _ {A : Type 0} (f : ℕ → Steps A) (s : List ℕ) (at : ℕ) where
  -- the two cases of `run (next f)`, by the test's value
  cases : Bool → Outcome A
  cases t = elim t [ true ↦ run (f (get_or s at 0)) s (at + 1) | false ↦ refused 1 at ]

  by_cases : run (next f) s at ≡ cases (ltb at (length s))
  unfolding cases
  by_cases = refl

  pub run_next : at < length s → run (next f) s at ≡ run (f (get_or s at 0)) s (at + 1)
  unfolding cases
  run_next h = by_cases ∙ ap cases (lt-ltb _ _ h)

  pub run_end : length s ≤ at → run (next f) s at ≡ refused 1 at
  unfolding cases
  run_end h = by_cases ∙ ap cases (le-ltb _ _ h)

pub run_bind : {A B : Type 0} (p : Steps A) (g : A → Steps B) (s : List ℕ) (at : ℕ)
    → run (p >>= g) s at ≡ and_then (run p s at) (λ a n. run (g a) s n)
run_bind (done a) g s at = refl
run_bind (refuse k) g s at = refl
run_bind (next f) g s at = go (ltb at (length s)) refl (run_bind (f (get_or s at 0)) g s (at + 1))
  where
    go : (t : Bool) → ltb at (length s) ≡ t
        → run (f (get_or s at 0) >>= g) s (at + 1) ≡ and_then (run (f (get_or s at 0)) s (at + 1)) (λ a n. run (g a) s n)
        → run (next f >>= g) s at ≡ and_then (run (next f) s at) (λ a n. run (g a) s n)
    go true e ih =
        run_next (λ b. f b >>= g) s at (ltb-true _ _ e) ∙ ih
        ∙ ap (λ o. and_then o (λ a n. run (g a) s n)) (sym (run_next f s at (ltb-true _ _ e)))
    go false e ih =
        run_end (λ b. f b >>= g) s at (ltb-false _ _ e)
        ∙ ap (λ o. and_then o (λ a n. run (g a) s n)) (sym (run_end f s at (ltb-false _ _ e)))
run_bind (here f) g s at = run_bind (f at) g s at

-- What a caller cites for each call. The callee's answer r stands for the outcome of the program p, and r is r', as a match shows:
-- then `p >>= g` goes on from r''s value, or stops with r''s refusal. Which of the two computes, by the case that r' is
pub step : {A B R : Type 0} (of : R → Outcome A) (p : Steps A) (g : A → Steps B) (s : List ℕ) (at : ℕ) {r r' : R}
    → of r ≡ run p s at → r ≡ r' → run (p >>= g) s at ≡ and_then (of r') (λ a n. run (g a) s n)
step of p g s at e m = run_bind p g s at ∙ ap (λ o. and_then o (λ a n. run (g a) s n)) (sym e ∙ ap of m)

-- the same where the code takes two or four bytes at once, and the program one after the other
pub step_two : {B : Type 0} (g : ℕ → ℕ → Steps B) (s : List ℕ) (at n : ℕ) (r : Result (ℕ × ℕ) Refusal) → outcome r n ≡ run two s at
    → run (byte >>= (λ a. byte >>= (λ b. g a b))) s at ≡ and_then (outcome r n) (λ p m. run (g p.0 p.1) s m)
unfolding byte two
step_two g s at n r e = step (λ r. outcome r n) two (λ p. g p.0 p.1) s at e refl

pub step_four : {B : Type 0} (g : ℕ → ℕ → ℕ → ℕ → Steps B) (s : List ℕ) (at n : ℕ) (r : Result (ℕ × ℕ × ℕ × ℕ) Refusal) → outcome r n ≡ run four s at
    → run (byte >>= (λ a. byte >>= (λ b. byte >>= (λ c. byte >>= (λ d. g a b c d))))) s at
    ≡ and_then (outcome r n) (λ p m. run (g p.0 p.1 p.2 p.3) s m)
unfolding byte four
step_four g s at n r e = step (λ r. outcome r n) four (λ p. g p.0 p.1 p.2 p.3) s at e refl

-- one program for an equal one
pub same_run : {A : Type 0} {p q : Steps A} (s : List ℕ) (at : ℕ) → p ≡ q → run p s at ≡ run q s at
same_run s at e = ap (λ p. run p s at) e

-- a test that is passed, and one that fails
pub passed : {B : Type 0} (t : Bool) (k : ℕ) (g : Unit → Steps B) (s : List ℕ) (at : ℕ)
    → t ≡ true → run (ensure t k >>= g) s at ≡ run (g tt) s at
passed t k g s at e = ap (λ (b : Bool). run (ensure b k >>= g) s at) e

pub failed : {B : Type 0} (t : Bool) (k : ℕ) (g : Unit → Steps B) (s : List ℕ) (at : ℕ)
    → t ≡ false → run (ensure t k >>= g) s at ≡ refused k at
failed t k g s at e = ap (λ (b : Bool). run (ensure b k >>= g) s at) e

pub picked : {A : Type 0} (t : Bool) (a b : A) → t ≡ true → cond t a b ≡ a
picked t a b e = ap (λ (u : Bool). cond u a b) e

pub picked_not : {A : Type 0} (t : Bool) (a b : A) → t ≡ false → cond t a b ≡ b
picked_not t a b e = ap (λ (u : Bool). cond u a b) e

-- which of two tests holds, as nested tests in the code find it
pub either_first : (a b : Bool) → a ≡ true → (a || b) ≡ true
either_first a b e = ap (λ (t : Bool). t || b) e

pub either_second : (a b : Bool) → a ≡ false → b ≡ true → (a || b) ≡ true
either_second a b e h = ap (λ (t : Bool). t || b) e ∙ h

pub neither : (a b : Bool) → a ≡ false → b ≡ false → (a || b) ≡ false
neither a b e h = ap (λ (t : Bool). t || b) e ∙ h

-- turns that are left: one more, or none
pub more : (n i : ℕ) → i < n → n - i ≡ suc (n - (i + 1))
more n i h = omega arith

pub zero_left : (n i : ℕ) → n ≤ i → n - i ≡ 0
zero_left n i h = omega arith

-- what p comes to so far: a chain of `step`s up to a place of the code, whose end antt works out
abbrev pub SoFar : {A : Type 0} → Steps A → List ℕ → ℕ → Type 0
SoFar {A} p s at = (o : Outcome A) × (run p s at ≡ o)

-- a refusal, with the filler beside it
pub refused_beside : {A : Type 0} {filler a : A} {e : Result ℕ Refusal} {f : Refusal} {o : Outcome A}
    → a ≡ filler → e ≡ Err f → refused f.number f.at ≡ o → Beside filler a e o
refused_beside {A} {filler} {a} p q r =
    record { answer = ap (ended a) q ∙ r; filled = subst (Filled filler a) (sym q) p }

-- ---- programs that are equal

pub then_then : {A B C : Type 0} (p : Steps A) (g : A → Steps B) (h : B → Steps C) → (p >>= g) >>= h ≡ (p >>= (λ a. g a >>= h))
then_then (done a) g h = refl
then_then (refuse k) g h = refl
then_then (next f) g h = λ i. next (λ b. then_then (f b) g h i)
then_then (here f) g h = λ i. here (λ n. then_then (f n) g h i)

pub then_same : {A B : Type 0} (p : Steps A) {g h : A → Steps B} → ((a : A) → g a ≡ h a) → p >>= g ≡ (p >>= h)
then_same p e = λ i. p >>= (λ a. e a i)
