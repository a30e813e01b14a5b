-- What of an outcome is a number, and what numbers there are.
use Rattle.std.specs.Prelude.{ℕ, ◌≤◌, ◌≡◌, refl, List, Some, None, Result, Ok, Err}
use Rattle.std.proofs.Common.{ap, arith}
use Rattle.steps.specs.Steps.{Outcome, got, refused}
use Rattle.steps.specs.Leaves.{ended}
use Rattle.steps.specs.Answers.{taken, numbered}
use Rattle.steps.specs.declared.Refusal.{Refusal}
use Rattle.crate_record.specs.declared.EDID.{EDID}
use Rattle.crate_reading.specs.Reading.{reading, answer}
use Rattle.crate_reading.specs.Sizes.{ends_reading}
use Rattle.crate_end.specs.Ends.{end_of}
use Rattle.bursts.specs.Bursts.{Report}

-- the refusal's number; 0 where there is none
abbrev pub number_of : {A : Type 0} → Outcome A → ℕ
number_of (got a n) = 0
number_of (refused k n) = k

-- what is told after a burst, as a number; nothing is 257, which no byte is
abbrev pub number_told : Report → ℕ
number_told None = 257
number_told (Some (Ok n)) = 0
number_told (Some (Err f)) = f.number

-- ---- for the proofs of the code: the end alone says the number and the bytes taken

pub number_told_of : (e : Result ℕ Refusal) → number_of (ended {A = Unit} tt e) ≡ number_told (Some e)
number_told_of (Ok n) = refl
number_told_of (Err f) = refl

pub number_of_end : {A : Type 0} (o : Outcome A) → number_of (end_of o) ≡ number_of o
number_of_end (got a n) = refl
number_of_end (refused k n) = refl

pub taken_of_end : {A : Type 0} (o : Outcome A) → taken (end_of o) ≡ taken o
taken_of_end (got a n) = refl
taken_of_end (refused k n) = refl

-- ---- 0 exactly where the block is accepted, else 1 to 6

number_by : {A : Type 0} (o : Outcome A) → ((k n : ℕ) → o ≡ refused k n → (1 ≤ k) × (k ≤ 6)) → number_of o ≤ 6
number_by (got a n) h = omega arith
number_by (refused k n) h = (h k n refl).1

accepted_by : {A : Type 0} (o : Outcome A) → ((k n : ℕ) → o ≡ refused k n → (1 ≤ k) × (k ≤ 6)) → number_of o ≡ 0
    → (a : A) × (o ≡ got a (taken o))
accepted_by (got a n) h e = (a, refl)
accepted_by (refused k n) h e = absurd (omega (arith, h k n refl))

pub number_at_most_6 : (s : List ℕ) → number_of (answer s) ≤ 6
number_at_most_6 s = omega (arith, number_by (answer s) (numbered reading _ s 0 ends_reading))

pub zero_is_accepted : (s : List ℕ) → number_of (answer s) ≡ 0 → (e : EDID) × (answer s ≡ got e (taken (answer s)))
zero_is_accepted s = accepted_by (answer s) (numbered reading _ s 0 ends_reading)

pub accepted_is_zero : (s : List ℕ) (e : EDID) (n : ℕ) → answer s ≡ got e n → number_of (answer s) ≡ 0
accepted_is_zero s e n h = ap number_of h
