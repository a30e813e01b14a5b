-- `crate_head::take_input` meets its contract: one read after the other. Assumes nothing.
use Rattle.std.proofs.Common.{rules, ap, Ok}
use Rattle.steps.specs.Took.{then, stop, gives}
use Rattle.crate_head.specs.Head.{input}
use Rattle.crate_head.proofs.take_input.Goals as goal

pub returns-in_err-byte : goal.returns-in_err-byte
unfolding input
returns-in_err-byte c = stop _ c.in_err-byte.ensures (search rules)

pub returns : goal.returns
unfolding input
returns c = then _ c.in_ok-byte.ensures (gives (ap Ok c.input_of.ensures))
