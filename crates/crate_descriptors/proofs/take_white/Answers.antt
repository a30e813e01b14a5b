-- `crate_descriptors::take_white` meets its contract: one read after the other. Assumes nothing.
use Rattle.std.proofs.Common.{refl, rules}
use Rattle.steps.specs.Took.{gives, stop, then}
use Rattle.crate_descriptors.specs.Descriptors.{white}
use Rattle.crate_descriptors.proofs.take_white.Goals as goal

pub returns-in_err-ps : goal.returns-in_err-ps
unfolding white
returns-in_err-ps c = stop _ c.in_err-ps.ensures (search rules)

pub returns-in_err-take_closing : goal.returns-in_err-take_closing
unfolding white
returns-in_err-take_closing c = then _ c.in_ok-ps.ensures (stop _ c.in_err-take_closing.ensures (search rules))

pub returns : goal.returns
unfolding white
returns c = then _ c.in_ok-ps.ensures (then _ c.in_ok-take_closing.ensures (gives refl))
