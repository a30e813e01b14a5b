-- `crate_descriptors::take_descriptor` meets its contract: one read after the other. Assumes nothing.
use Rattle.std.proofs.Common.{rules}
use Rattle.steps.specs.Took.{stop_two, then_two}
use Rattle.crate_descriptors.specs.Descriptors.{descriptor}
use Rattle.crate_descriptors.proofs.take_descriptor.Goals as goal

pub returns-in_err-tag : goal.returns-in_err-tag
unfolding descriptor
returns-in_err-tag c = stop_two _ c.in_err-tag.ensures (search rules)

pub returns : goal.returns
unfolding descriptor
returns c = then_two _ c.in_ok-tag.ensures (c.take_tagged.ensures)
