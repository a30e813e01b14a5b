-- `pick_lines::read_number` meets its contract. The invariant: the bytes from `at` on, behind the value so far, say what all of them say. Assumes
-- nothing.
use Prim.Native.Nat.{◌-◌, ◌≤◌}
use mathlib.Core.Path.{◌≡◌}
use lib.ListN.{length, drop}
use Rattle.pick_lines.specs.Asked.{number_in, number_from}
use Rattle.pick_lines.proofs.read_number.Given as goal

abbrev pub invariant-loop-at : goal.invariant-loop-at
invariant-loop-at l = (l.value ≤ l.top) × (number_in l.top l.end l.from l.value l.at (drop l.at l.s) ≡ number_from l.top l.end l.from l.s)

abbrev pub decreases-loop-at : goal.decreases-loop-at
decreases-loop-at l = length l.s - l.at
