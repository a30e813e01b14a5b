-- What holds of the value of a program on one list, with the bytes that it read: a condition on the value and the place after it.
-- `Ends` speaks of every list and of how many bytes were taken; `Meets` of this list and of places in it.
use Rattle.std.specs.Prelude.{ℕ, suc, ◌+◌, ◌≤◌, ◌<◌, ◌≡◌, refl, Bool, true, false, cond, List, length, get_or}
use Rattle.std.proofs.Common.{arith, le_refl}
use Rattle.steps.specs.Steps.{Steps, done, refuse, next, here, ◌>>=◌, Outcome, got, refused, run, ensure}
use Rattle.steps.specs.Answers.{Ends, by_next}

-- whenever p, begun at the place `at` of s, gives a value a at the place n, Q a n
abbrev pub Meets : {A : Type 0} → List ℕ → (A → ℕ → Type 0) → Steps A → ℕ → Type 0
Meets s Q (done a) at = Q a at
Meets s Q (refuse k) at = Unit
Meets s Q (next f) at = at < length s → Meets s Q (f (get_or s at 0)) (at + 1)
Meets s Q (here f) at = Meets s Q (f at) at

-- the same of an outcome
abbrev pub Gives : {A : Type 0} → (A → ℕ → Type 0) → Outcome A → Type 0
Gives Q (got a n) = Q a n
Gives Q (refused k n) = Unit

pub meets : {A : Type 0} (s : List ℕ) (Q : A → ℕ → Type 0) (p : Steps A) (at : ℕ) → Meets s Q p at → Gives Q (run p s at)
meets s Q (done a) at e = e
meets s Q (refuse k) at e = tt
meets s Q (next f) at e = by_next (Gives Q) f s at (λ l. meets s Q (f (get_or s at 0)) (at + 1) (e l)) (λ l. tt)
meets s Q (here f) at e = meets s Q (f at) at e

pub meets_map : {A : Type 0} (s : List ℕ) (Q R : A → ℕ → Type 0) (p : Steps A) (at : ℕ) → ((a : A) (n : ℕ) → Q a n → R a n)
    → Meets s Q p at → Meets s R p at
meets_map s Q R (done a) at h e = h a at e
meets_map s Q R (refuse k) at h e = tt
meets_map s Q R (next f) at h e = λ l. meets_map s Q R (f (get_or s at 0)) (at + 1) h (e l)
meets_map s Q R (here f) at h e = meets_map s Q R (f at) at h e

pub meets_then : {A B : Type 0} (s : List ℕ) (Q : A → ℕ → Type 0) (R : B → ℕ → Type 0) (p : Steps A) (g : A → Steps B) (at : ℕ)
    → Meets s Q p at → ((a : A) (n : ℕ) → Q a n → Meets s R (g a) n) → Meets s R (p >>= g) at
meets_then s Q R (done a) g at e h = h a at e
meets_then s Q R (refuse k) g at e h = tt
meets_then s Q R (next f) g at e h = λ l. meets_then s Q R (f (get_or s at 0)) g (at + 1) (e l) h
meets_then s Q R (here f) g at e h = meets_then s Q R (f at) g at e h

-- whatever p gives, no earlier than where it began
pub meets_after : {A B : Type 0} (s : List ℕ) (R : B → ℕ → Type 0) (p : Steps A) (g : A → Steps B) (at : ℕ)
    → ((a : A) (n : ℕ) → at ≤ n → Meets s R (g a) n) → Meets s R (p >>= g) at
meets_after s R (done a) g at h = h a at (le_refl at)
meets_after s R (refuse k) g at h = tt
meets_after s R (next f) g at h = λ l. meets_after s R (f (get_or s at 0)) g (at + 1) (λ a n i. h a n (omega arith))
meets_after s R (here f) g at h = meets_after s R (f at) g at h

-- what p meets, with that
pub meets_on : {A : Type 0} (s : List ℕ) (Q : A → ℕ → Type 0) (p : Steps A) (at : ℕ) → Meets s Q p at → Meets s (λ a n. Q a n × (at ≤ n)) p at
meets_on s Q (done a) at e = (e, le_refl at)
meets_on s Q (refuse k) at e = tt
meets_on s Q (next f) at e =
    λ l. meets_map s (λ a n. Q a n × (at + 1 ≤ n)) (λ a n. Q a n × (at ≤ n)) (f (get_or s at 0)) (at + 1) (λ a n q. (q.0, omega arith))
    (meets_on s Q (f (get_or s at 0)) (at + 1) (e l))
meets_on s Q (here f) at e = meets_on s Q (f at) at e

pub meets_if : {A : Type 0} (s : List ℕ) (Q : A → ℕ → Type 0) (t : Bool) (p q : Steps A) (at : ℕ) → (t ≡ true → Meets s Q p at)
    → (t ≡ false → Meets s Q q at) → Meets s Q (cond t p q) at
meets_if s Q true p q at e h = e refl
meets_if s Q false p q at e h = h refl

pub meets_ensured : {B : Type 0} (s : List ℕ) (Q : B → ℕ → Type 0) (t : Bool) (k : ℕ) (g : Unit → Steps B) (at : ℕ)
    → (t ≡ true → Meets s Q (g tt) at) → Meets s Q (ensure t k >>= g) at
meets_ensured s Q true k g at e = e refl
meets_ensured s Q false k g at e = tt

-- what is known of every list is known of this one
pub meets_ends : {A : Type 0} (s : List ℕ) (Q : A → ℕ → Type 0) (p : Steps A) (at : ℕ) → Ends Q p
    → Meets s (λ a n. (m : ℕ) × (n ≡ at + m) × Q a m) p at
meets_ends s Q (done a) at e = (0, omega arith, e)
meets_ends s Q (refuse k) at e = tt
meets_ends s Q (next f) at e =
    λ l. meets_map s (λ a n. (m : ℕ) × (n ≡ at + 1 + m) × Q a (suc m)) (λ a n. (m : ℕ) × (n ≡ at + m) × Q a m) (f (get_or s at 0)) (at + 1)
    (λ a n q. (suc q.0, omega (arith, q.1), q.2)) (meets_ends s (λ a m. Q a (suc m)) (f (get_or s at 0)) (at + 1) (e (get_or s at 0)))
meets_ends s Q (here f) at e = meets_ends s Q (f at) at (e at)
