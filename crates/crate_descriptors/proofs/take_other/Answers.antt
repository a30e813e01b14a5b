-- `crate_descriptors::take_other` meets its contract: one read after the other. Assumes nothing.
use Rattle.std.proofs.Common.{refl, rules}
use Rattle.steps.specs.Took.{gives, stop, then}
use Rattle.crate_descriptors.specs.Descriptors.{other}
use Rattle.crate_descriptors.proofs.take_other.Goals as goal

pub returns-in_err-data : goal.returns-in_err-data
unfolding other
returns-in_err-data c = stop _ c.in_err-data.ensures (search rules)

pub returns : goal.returns
unfolding other
returns c = then _ c.in_ok-data.ensures (gives refl)
