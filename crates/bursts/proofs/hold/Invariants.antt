-- `bursts::hold` meets its contract. The invariant: the first i bytes of the burst are pasted in. Assumes nothing.
use Rattle.std.proofs.Common.{◌≡◌}
use lib.Seq.{paste}
use Rattle.bursts.proofs.hold.Given as goal

abbrev pub invariant-loop-i : goal.invariant-loop-i
invariant-loop-i l = l.state ≡ paste l.initial.state l.from l.burst l.i
