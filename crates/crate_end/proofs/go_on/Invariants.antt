-- `crate_end::go_on` meets its contract. The invariant: going on from here comes as far as from the start, and the piece that the code
-- names at the end is the one that it stands at. Assumes nothing.
use Rattle.std.proofs.Common.{◌-◌, ◌≡◌, max}
use Rattle.crate_end.specs.Ends.{went}
use Rattle.crate_end.proofs.go_on.Given as goal

abbrev pub invariant-loop-i : goal.invariant-loop-i
invariant-loop-i l = (went (5 - l.i) l.i l.c.bytes.now l.c.at ≡ went (5 - l.piece) l.piece l.s l.at) × (max l.piece 5 ≡ max l.i 5)
