-- `crate_descriptors::take_none` meets its contract: one read after the other. Assumes nothing.
use Rattle.std.proofs.Common.{refl, rules}
use Rattle.steps.specs.Took.{gives, stop, then}
use Rattle.crate_descriptors.specs.Descriptors.{none}
use Rattle.crate_descriptors.proofs.take_none.Goals as goal

pub returns-in_err-take_closing : goal.returns-in_err-take_closing
unfolding none
returns-in_err-take_closing c = stop _ c.in_err-take_closing.ensures (search rules)

pub returns : goal.returns
unfolding none
returns c = then _ c.in_ok-take_closing.ensures (gives refl)
