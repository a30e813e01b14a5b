-- `cta_reading::read_timings` meets its contract. The invariant: the list is of the timings passed. Assumes nothing.
use Prim.Native.Nat.{◌-◌, ◌≤◌}
use Rattle.cta_reading.proofs.Laws.{Timings}
use Rattle.cta_reading.proofs.read_timings.Given as goal

abbrev pub invariant-loop-video : goal.invariant-loop-video
invariant-loop-video l = (l.p ≤ 127) × Timings l.s l.timings l.p

abbrev pub decreases-loop-video : goal.decreases-loop-video
decreases-loop-video l = 127 - l.p
