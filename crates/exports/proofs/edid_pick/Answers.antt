-- `exports::edid_pick` meets its contract: what is lent is judged first, then the reading's verdict. Assumes nothing.
use Rattle.std.proofs.Common.{sym, ◌∙◌}
use borrow.Author.Tests.{lt-ltb, le-ltb}
use Rattle.exports.proofs.Laws.{told_list, told_refusal}
use Rattle.exports.proofs.edid_pick.Goals as goal

pub returns-then-numbers-lt14 : goal.returns-then-numbers-lt14
returns-then-numbers-lt14 c = rw (lt-ltb _ 14 c.if-numbers-lt14.true)

pub returns-in-Err : goal.returns-in-Err
returns-in-Err c =
    rw (le-ltb _ 14 c.if-numbers-lt14.false, told_refusal _ _ (sym c.read_timings.ensures ∙ c.in-Err.is), c.from.ensures)

pub returns-in-Ok : goal.returns-in-Ok
returns-in-Ok c =
    let t = told_list _ _ (sym c.read_timings.ensures ∙ c.in-Ok.is) in
    rw (le-ltb _ 14 c.if-numbers-lt14.false, t.0, t.1) c.show.ensures
