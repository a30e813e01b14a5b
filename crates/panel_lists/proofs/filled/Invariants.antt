-- `panel_lists::filled` meets its contract. The invariant: the first i items are in their places. Assumes nothing.
use Rattle.std.specs.Prelude.{◌≡◌, List, length, replicate}
use Rattle.panel_lists.specs.Laws.{Gives, Filled}
use Rattle.panel_lists.proofs.filled.Given as goal

abbrev pub invariant-loop-i : goal.invariant-loop-i
invariant-loop-i g l = (d : _) (xs : List _) → l.fn.items ≡ replicate (length l.fn.items) d → Gives (goal.F-post g l.given) (length l.fn.items) xs → Filled (length l.fn.items) d xs l.items l.i
