-- `register::all_zero` meets its contract. The invariant: no digit was seen, and all that is left is zero, where the whole is. Assumes nothing.
use mathlib.Core.Path.{◌≡◌}
use mathlib.Core.Bool.{◌&&◌}
use lib.Dec.{eqb}
use lib.ListN.{drop}
use Rattle.register.specs.Register.{all_zero}
use Rattle.register.proofs.all_zero.Given as goal

abbrev pub invariant-loop-b : goal.invariant-loop-b
invariant-loop-b l = all_zero l.s ≡ (eqb l.seen 0 && all_zero (drop l.b-index l.s))
