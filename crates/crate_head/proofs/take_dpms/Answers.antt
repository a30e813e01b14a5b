-- `crate_head::take_dpms` meets its contract: one read after the other. Assumes nothing.
use Rattle.std.proofs.Common.{rules, ap, Ok}
use Rattle.steps.specs.Took.{then, stop, gives}
use Rattle.crate_head.specs.Head.{dpms}
use Rattle.crate_head.proofs.take_dpms.Goals as goal

pub returns-in_err-byte : goal.returns-in_err-byte
unfolding dpms
returns-in_err-byte c = stop _ c.in_err-byte.ensures (search rules)

pub returns : goal.returns
unfolding dpms
returns c = then _ c.in_ok-byte.ensures (gives (ap Ok c.dpms_of.ensures))
