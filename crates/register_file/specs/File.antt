-- A register's file: its records one after the other, up to the first that is refused.
use Rattle.std.specs.Prelude.{ℕ, zero, suc, List, [], ◌∷◌, ◌++◌, take, drop}
use Rattle.register.specs.Register.{Step, Refused, Record, step_up, step_down}
use Rattle.register_file.specs.declared.Way.{Way}
use Rattle.register_file.specs.declared.Way.TheVariants.{Up, Down}

-- ---- the two ways

abbrev pub other : Way → Way
other Up = Down
other Down = Up

abbrev pub step_of : Way → List ℕ → Step
step_of Up = step_up
step_of Down = step_down

-- the length of a record to step
abbrev pub from_of : Way → ℕ
from_of Up = 136
from_of Down = 264

-- the length of one that is stepped
abbrev pub to_of : Way → ℕ
to_of way = from_of (other way)

-- ---- the records

-- what is written, how many records that is, and the number that the next one is refused with, 0 if there is none
pub record Converted : Type 0 where
  pub bytes : List ℕ
  pub count : ℕ
  pub number : ℕ

abbrev pub nothing : Converted
nothing = record { bytes = []; count = 0; number = 0 }

-- a step, and what comes of the records behind it
abbrev pub before : Step → Converted → Converted
before (Refused number) rest = record { bytes = []; count = 0; number = number }
before (Record other) rest = record { bytes = other ++ rest.bytes; count = suc rest.count; number = rest.number }

-- the first n records of s, or as many as there are; the last one has what is left
unfoldable pub converted : Way → ℕ → List ℕ → Converted
converted way zero s = nothing
converted way (suc n) [] = nothing
converted way (suc n) (b ∷ s) = before (step_of way (take (from_of way) (b ∷ s))) (converted way n (drop (from_of way) (b ∷ s)))
