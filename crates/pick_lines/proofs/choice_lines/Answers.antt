-- `pick_lines::choice_lines` meets its contract, by the choice. Assumes nothing.
use Rattle.std.proofs.Common.{arith, Ok, Err}
use Rattle.page.specs.Laws.{pieces, no_pieces}
use Rattle.picking.specs.Entry.{below_four, entry_read}
use Rattle.picking.specs.Promises.{computed}
use Rattle.pick_lines.specs.Lines.{choice_lines}
use Rattle.pick_lines.proofs.choice_lines.Goals as goal

pub bounds-list-i : goal.bounds-list-i
bounds-list-i c =
    let a = c.args in
    below_four a.limits a.list _ (rw c.in-Ok.is at c.choose.ensures)

pub offset_bounds-list-i : goal.offset_bounds-list-i
offset_bounds-list-i c =
    let a = c.args in
    omega (arith, below_four a.limits a.list _ (rw c.in-Ok.is at c.choose.ensures))

pub returns-in-Err : goal.returns-in-Err
unfolding choice_lines
returns-in-Err c =
    rw (← computed c.args.limits _ (Err _) (rw c.in-Err.is at c.choose.ensures)) (simp (pieces, no_pieces) (cc))

pub returns-in-Ok : goal.returns-in-Ok
unfolding choice_lines
returns-in-Ok c =
    let a = c.args in
    let best = rw c.in-Ok.is at c.choose.ensures in
    let entry = rw (entry_read a.limits a.list _ best) at c.detailed_line.ensures in
    rw (← computed a.limits _ (Ok _) best) (simp (pieces, no_pieces) (cc))
