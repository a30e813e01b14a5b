-- `naming::name_in` meets its contract. The invariant: the slots passed are not refused, and the name is the first of their texts. Assumes nothing.
use Prim.Native.Nat.{◌≤◌}
use mathlib.Core.Path.{◌≡◌}
use lib.ListN.{length}
use Rattle.naming.proofs.Laws.{Passed}
use Rattle.naming.proofs.name_in.Given as goal

abbrev pub invariant-loop-i : goal.invariant-loop-i
invariant-loop-i l = (l.i ≤ 4) × (length l.s ≡ 128) × Passed l.s l.i l.name
