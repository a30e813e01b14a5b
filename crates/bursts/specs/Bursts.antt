-- What the state of a reader of bursts stands for, and what a burst makes of it.
use Rattle.std.specs.Prelude.{ℕ, ◌-◌, cond, eqb, ltb, get_or, take, Option, Some, None, Result, Ok, Err}
use mathlib.Core.List.{List, [], ◌++◌, foldl}
use Rattle.steps.specs.Steps.{Outcome, got, refused}
use Rattle.steps.specs.declared.Refusal.{Refusal}
use Rattle.crate_end.specs.Ends.{Went, went}

-- how far a reading came: to a piece that is not whole, which begins at a place; or its end is known
pub data Stage : Type 0 where
  amid : ℕ → ℕ → Stage
  known : Outcome Unit → Stage

-- the bytes that came, as many as an answer can take; and how far the reading of them came
pub record Standing : Type 0 where
  pub bytes : List ℕ
  pub stage : Stage

-- what is told: nothing while the end is not known
abbrev pub Report : Type 0
Report = Option (Result ℕ Refusal)

abbrev pub report_of : {A : Type 0} → Outcome A → Report
report_of (got a n) = Some (Ok n)
report_of (refused k n) = Some (Err (record { number = k; at = n }))

abbrev pub told : Stage → Report
told (amid i at) = None
told (known o) = report_of o

-- ---- the 146 bytes of a state

-- 142 for the bytes that came, and how many these are
unfoldable pub held : List ℕ → List ℕ
held state = take (get_or state 142 0) (take 142 state)

-- a piece's number, or 6 where the reading accepts, or 7; a place; and the number where it refuses
unfoldable pub stage_of : ℕ → ℕ → ℕ → Stage
stage_of sort place number = cond (ltb sort 6) (amid sort place) (known (cond (eqb sort 6) (got tt place) (refused number place)))

unfoldable pub stage : List ℕ → Stage
stage state = stage_of (get_or state 143 0) (get_or state 144 0) (get_or state 145 0)

abbrev pub standing : List ℕ → Standing
standing state = record { bytes = held state; stage = stage state }

-- ---- bursts

-- out of data is no end while more can come
abbrev pub end_or : Outcome Unit → Stage → Stage
end_or (got a n) on = known (got a n)
end_or (refused k n) on = cond (eqb k 1) on (known (refused k n))

abbrev pub settled : Went → Stage
settled w = end_or w.end (amid w.piece w.at)

-- the reading goes on over all that came; an end that is known stays
abbrev pub further : Stage → List ℕ → Stage
further (amid i at) all = settled (went (5 - i) i all at)
further (known o) all = known o

abbrev pub grow : Standing → List ℕ → Standing
grow a burst =
    let all = take 142 (a.bytes ++ burst) in
    record { bytes = all; stage = further a.stage all }

abbrev pub fresh : Standing
fresh = record { bytes = []; stage = amid 0 0 }

-- after bursts, from the start
abbrev pub after : List (List ℕ) → Standing
after bursts = foldl grow fresh bursts
