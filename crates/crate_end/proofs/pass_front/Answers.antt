-- `crate_end::pass_front` meets its contract: one read after the other. Assumes nothing.
use Rattle.std.proofs.Common.{rules}
use Rattle.steps.specs.Took.{then, stop}
use Rattle.crate_end.specs.Ends.{piece}
use Rattle.crate_end.proofs.pass_front.Goals as goal

pub returns-in_err-take_header : goal.returns-in_err-take_header
unfolding piece
returns-in_err-take_header c = stop _ c.in_err-take_header.ensures (search rules)

pub returns : goal.returns
unfolding piece
returns c = then _ c.in_ok-take_header.ensures c.take_skip.ensures
