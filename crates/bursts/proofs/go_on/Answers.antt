-- `bursts::go_on` meets its contract: its numbers are small, since those that it begins with are. Assumes nothing.
use Prim.Native.Nat.{◌-◌}
use mathlib.Core.Path.{sym, subst}
use borrow.Author.Rules.{rules}
use Rattle.crate_end.specs.Onward.{Small, small}
use Rattle.bursts.proofs.go_on.Goals as goal

pub returns : goal.returns
returns c =
    let a = c.args in
    let ran = rw (c.from.ensures, c.from-2.ensures) at c.go_on.ensures in
    (ran, subst (Small 255) (sym ran) (small (5 - a.piece) a.piece a.s.now a.at 255 (search rules) (search rules) (search rules)))
