-- `write_head::total` meets its contract: the invariant: the sum so far and what is left. Assumes nothing.
use mathlib.Core.Path.{◌≡◌}
use Prim.Native.Nat.{◌+◌, ◌*◌, ◌≤◌}
use lib.ListN.{drop}
use Rattle.write_head.specs.Flags.{total}
use Rattle.write_head.proofs.total.Given as goal

abbrev pub invariant-loop-n : goal.invariant-loop-n
invariant-loop-n l = (l.sum + total (drop l.n-index l.t) ≡ total l.t) × (l.sum ≤ 65536 * l.n-index)
