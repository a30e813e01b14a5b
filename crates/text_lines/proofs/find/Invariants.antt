-- `text_lines::find` meets its contract. The invariant: the line looked for is the one at `left` of what is left of the text. Assumes nothing.
use Prim.Native.Nat.{◌+◌, ◌-◌, ◌≤◌}
use lib.ListN.{length, drop}
use Rattle.text_lines.specs.Lines.{lines}
use Rattle.text_lines.specs.Walk.{Left}
use Rattle.text_lines.proofs.find.Given as goal

abbrev pub invariant-loop-at : goal.invariant-loop-at
invariant-loop-at l = Left l.s l.k (lines (drop l.at l.s)) l.left l.number × (l.number ≤ l.at + 1)

abbrev pub decreases-loop-at : goal.decreases-loop-at
decreases-loop-at l = length l.s - l.at
