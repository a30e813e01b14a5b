-- `cta_reading::read_blocks` meets its contract. The invariant: the lists are what the data blocks passed say. Assumes nothing.
use Prim.Native.Nat.{◌-◌, ◌≤◌}
use Rattle.cta_reading.proofs.Laws.{Blocks}
use Rattle.cta_reading.proofs.read_blocks.Given as goal

abbrev pub invariant-loop-p : goal.invariant-loop-p
invariant-loop-p l = (l.p ≤ 127) × (l.offset ≤ 127) × Blocks l.s l.video l.blocks l.p

abbrev pub decreases-loop-p : goal.decreases-loop-p
decreases-loop-p l = 127 - l.p
