-- `crate_descriptors::take_ended` meets its contract: one read after the other. Assumes nothing.
use Rattle.std.proofs.Common.{refl, rules}
use Rattle.steps.specs.Took.{gives, stop, then}
use Rattle.crate_descriptors.specs.Descriptors.{ended}
use Rattle.crate_descriptors.proofs.take_ended.Goals as goal

pub returns-in_err-take_skip : goal.returns-in_err-take_skip
unfolding ended
returns-in_err-take_skip c = stop _ c.in_err-take_skip.ensures (search rules)

pub returns : goal.returns
unfolding ended
returns c = then _ c.in_ok-take_skip.ensures (gives refl)
