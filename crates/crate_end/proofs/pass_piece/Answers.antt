-- `crate_end::pass_piece` meets its contract, by the piece's number. Assumes nothing.
use Rattle.std.proofs.Common.{suc, ◌-◌, ◌≡◌, ap, arith}
use Rattle.steps.specs.Took.{as_of}
use Rattle.crate_end.specs.Ends.{piece}
use Rattle.crate_end.proofs.pass_piece.Goals as goal

pub returns-then-i-gt0 : goal.returns-then-i-gt0
returns-then-i-gt0 c =
    let is : c.args.i ≡ suc (c.args.i - 1) = omega arith in
    as_of (ap piece is) c.pass_slot.ensures

pub returns-else-i-gt0 : goal.returns-else-i-gt0
returns-else-i-gt0 c =
    let is : c.args.i ≡ 0 = omega arith in
    as_of (ap piece is) c.pass_front.ensures
