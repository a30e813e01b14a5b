-- What holds of the steps, over every list of bytes: how each ends and why, that the number tells, and that one answer fits. That each reason gives
-- its end and each end has its reason, and that a step and the step back give the same bytes, is in proofs/Promises.
use Rattle.std.specs.Prelude.{ℕ, zero, suc, ◌+◌, ◌^◌, ◌≤◌, ◌<◌, ◌≡◌, refl, Bool, true, false, ◌&&◌, ◌||◌, List, ◌⊎◌, eqb, leb, length, take, Result}
use Rattle.std.proofs.Common.{sym, ap, ◌∙◌, true≢false, inl, inr, eq-or-lt_of_le, arith, eqb-true, eq-eqb, ne_eqb, length-append, drop-cons}
use Rattle.std.proofs.Math.Bool.{and-false}
use Rattle.std.proofs.lemmas.Bool.{eqb-false}
use Rattle.bits.specs.Bytes.{◌!◌, part}
use Rattle.register.specs.declared.StepRefusal.{StepRefusal}
use Rattle.register.specs.Refusals.{told, one_told}
use Rattle.register.specs.Register.{zeros, short, long, Step, Refused, Record, must, all_zero, step_up, step_down, written, into}

-- ---- the layouts, stepped

module _ (panel : ℕ) (base : List ℕ) (p : panel < 2 ^ 32) (b : length base ≡ 128) where
  pub down_with_extension : (extension : List ℕ) → length extension ≡ 128 → step_down (long panel 1 base extension) ≡ Refused 16
  down_with_extension extension e = rw (length-append base extension, b, e) refl

-- ---- how each ends, and why

-- a byte from one place to before another is not zero
pub data NotZero (s : List ℕ) (from to : ℕ) : Type 0 where
  at : (i : ℕ) → from ≤ i → i < to → (s ! i ≡ 0 → ⊥) → NotZero s from to

pub not_zero : (s : List ℕ) (k n : ℕ) → k + n ≤ length s → all_zero (part s k n) ≡ false → NotZero s k (k + n)
not_zero s k zero h e = absurd (true≢false e)
not_zero s k (suc n) h e =
    by (eqb (s ! k) 0) refl (not_zero s (suc k) n (omega arith)) (ap (λ (t : List ℕ). all_zero (take (suc n) t)) (sym (drop-cons s k 0 (omega arith))) ∙ e)
  where
    later : NotZero s (suc k) (suc k + n) → NotZero s k (k + suc n)
    later (at i low high z) = at i (omega arith) (omega arith) z

    by : (t : Bool) → eqb (s ! k) 0 ≡ t → (all_zero (part s (suc k) n) ≡ false → NotZero s (suc k) (suc k + n)) → (t && all_zero (part s (suc k) n)) ≡ false → NotZero s k (k + suc n)
    by false z rest e = at k (omega arith) (omega arith) (eqb-false (s ! k) 0 z)
    by true z rest e = later (rest e)

-- one test of a step
pub by_test : (P : Step → Type 0) (test : Bool) (number : ℕ) (step : Step) → (test ≡ false → P (Refused number)) → (test ≡ true → P step) → P (must test number step)
by_test P false number step fails holds = fails refl
by_test P true number step fails holds = holds refl

pub data UpEnd (s : List ℕ) : Step → Type 0 where
  wrong_length : (length s ≡ 136 → ⊥) → UpEnd s (Refused 15)
  not_zero_there : length s ≡ 136 → NotZero s 4 8 → UpEnd s (Refused 17)
  accepted : (panel : ℕ) (base : List ℕ) → panel < 2 ^ 32 → length base ≡ 128 → s ≡ short panel base → UpEnd s (Record (long panel 0 base (zeros 128)))

pub data DownEnd (s : List ℕ) : Step → Type 0 where
  wrong_length : (length s ≡ 264 → ⊥) → DownEnd s (Refused 15)
  count_above_1 : length s ≡ 264 → 1 < s ! 4 → DownEnd s (Refused 17)
  not_zero_there : length s ≡ 264 → NotZero s 5 8 → DownEnd s (Refused 17)
  uncounted : length s ≡ 264 → s ! 4 ≡ 0 → NotZero s 136 264 → DownEnd s (Refused 17)
  extended : (panel : ℕ) (base extension : List ℕ) → panel < 2 ^ 32 → length base ≡ 128 → length extension ≡ 128 → s ≡ long panel 1 base extension → DownEnd s (Refused 16)
  accepted : (panel : ℕ) (base : List ℕ) → panel < 2 ^ 32 → length base ≡ 128 → s ≡ long panel 0 base (zeros 128) → DownEnd s (Record (short panel base))

-- ---- and no other end: each reason gives its end

pub all_zero_not : (s : List ℕ) (k n : ℕ) → k + n ≤ length s → NotZero s k (k + n) → all_zero (part s k n) ≡ false
all_zero_not s k zero h (at i low high z) = absurd (omega arith)
all_zero_not s k (suc n) h (at i low high z) =
    ap (λ (t : List ℕ). all_zero (take (suc n) t)) (drop-cons s k 0 (omega arith)) ∙ by (eq-or-lt_of_le low) (all_zero_not s (suc k) n (omega arith))
  where
    by : (k ≡ i) ⊎ (k < i) → (NotZero s (suc k) (suc k + n) → all_zero (part s (suc k) n) ≡ false) → (eqb (s ! k) 0 && all_zero (part s (suc k) n)) ≡ false
    by (inl e) rest = rw (ne_eqb (s ! k) 0 (λ y. z (ap (λ (j : ℕ). s ! j) (sym e) ∙ y))) refl
    by (inr l) rest = rw (rest (at i (omega arith) (omega arith) z)) (and-false (eqb (s ! k) 0))

-- ---- there and back

-- a step that gives a record was handed one of its length
pub takes : (size : ℕ) (s t : List ℕ) (step : Step) → must (eqb (length s) size) 15 step ≡ Record t → length s ≡ size
takes size s t step = by_test (λ x. x ≡ Record t → length s ≡ size) (eqb (length s) size) 15 step (λ f e. cc) (λ h e. eqb-true (length s) size h)

-- ---- 0 is the number of no refusal

abbrev pub Numbered : Step → Type 0
Numbered (Refused number) = number ≡ 0 → ⊥
Numbered (Record other) = Unit {0}

numbered : (test : Bool) (n : ℕ) (step : Step) → Numbered step → Numbered (must test (suc n) step)
numbered false n step h = λ e. absurd (omega arith)
numbered true n step h = h

pub up_numbered : (s : List ℕ) → Numbered (step_up s)
up_numbered s = numbered (eqb (length s) 136) 14 _ (numbered (all_zero (part s 4 4)) 16 _ tt)

pub down_numbered : (s : List ℕ) → Numbered (step_down s)
down_numbered s =
    numbered (eqb (length s) 264) 14 _
    (numbered (leb (s ! 4) 1) 16 _
    (numbered (all_zero (part s 5 3)) 16 _
    (numbered (eqb (s ! 4) 1 || all_zero (part s 136 128)) 16 _
    (numbered (eqb (s ! 4) 0) 15 _ tt))))

-- so the number tells: with 0 the output had its length, and is the other record now
pub zero_accepts : (size : ℕ) (output after : List ℕ) (step : Step) → Numbered step → (0, after) ≡ into size output step → (length output ≡ size) × (step ≡ Record after)
zero_accepts size output after step h =
    by_test (λ x. (0, after) ≡ written output x → (length output ≡ size) × (step ≡ Record after)) (eqb (length output) size) 15 step
    (λ f e. absurd (omega (arith, ap (λ (p : ℕ × List ℕ). p.0) e)))
    (λ t e. (eqb-true (length output) size t, by step h e))
  where
    by : (step : Step) → Numbered step → (0, after) ≡ written output step → step ≡ Record after
    by (Refused n) h e = absurd (h (sym (ap (λ (p : ℕ × List ℕ). p.0) e)))
    by (Record t) h e = ap Record (sym (ap (λ (p : ℕ × List ℕ). p.1) e))

-- and with any other it is as it was, and where it had its length the step is refused with that number
pub nonzero_refuses : (size : ℕ) (output after : List ℕ) (step : Step) (number : ℕ) → (number ≡ 0 → ⊥) → (number, after) ≡ into size output step
    → (after ≡ output) × (length output ≡ size → step ≡ Refused number)
nonzero_refuses size output after step number h e =
    ((by (must (eqb (length output) size) 15 step) e).0, λ n. (by step (rw (eq-eqb (length output) size n) at e)).1)
  where
    by : (step : Step) → (number, after) ≡ written output step → (after ≡ output) × (step ≡ Refused number)
    by (Refused n) e = (ap (λ (p : ℕ × List ℕ). p.1) e, ap Refused (sym (ap (λ (p : ℕ × List ℕ). p.0) e)))
    by (Record t) e = absurd (h (ap (λ (p : ℕ × List ℕ). p.0) e))

-- ---- at most one answer of a step fits, and one output

pub one_answer : (size : ℕ) (output : List ℕ) (step : Step) {after after' : List ℕ} {a a' : Result Unit StepRefusal} → (told a, after) ≡ into size output step
    → (told a', after') ≡ into size output step → (a ≡ a') × (after ≡ after')
one_answer size output step e e' =
    let same = e ∙ sym e' in
    (one_told (ap (λ (p : ℕ × List ℕ). p.0) same), ap (λ (p : ℕ × List ℕ). p.1) same)
