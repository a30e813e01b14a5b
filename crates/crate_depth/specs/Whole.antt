-- The crate reading never wants more than 142 bytes, refusals included; and one at the least.
use Rattle.std.specs.Prelude.{ℕ, ◌<◌, ◌≡◌, List, take}
use Rattle.std.proofs.Common.{sym, subst, le_refl, arith}
use Rattle.steps.specs.Leaves.{byte, word, long}
use Rattle.steps.specs.Answers.{taken, Enough}
use Rattle.crate_head.specs.Head.{front, header}
use Rattle.crate_reading.specs.Reading.{parts, reading, answer}
use Rattle.crate_end.specs.Whole.{bare_reading}
use Rattle.crate_depth.specs.Room.{Room, room_more, room_bare, first_only}
use Rattle.crate_depth.specs.Parts.{room_ends}
use Rattle.crate_depth.specs.Prefix.{begun}

pub room_reading : Room (λ _. 0) 142 reading
room_reading = room_more reading _ 142 142 (omega arith) (room_bare reading 142 (subst (Room (λ _. 0) 142) (sym bare_reading) room_ends))

-- so the first 142 bytes say all that the whole input says
pub first_142 : (s : List ℕ) → answer (take 142 s) ≡ answer s
first_142 s = first_only reading (λ _. 0) 142 room_reading s 0 142 (le_refl 142)

pub begun_reading : (s : List ℕ) → Enough (answer s) → 0 < taken (answer s)
unfolding reading parts front header long word byte
begun_reading s = begun reading s tt
