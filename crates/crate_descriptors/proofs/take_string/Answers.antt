-- `crate_descriptors::take_string` meets its contract: one read after the other. Assumes nothing.
use Rattle.std.proofs.Common.{Ok, ap, rules}
use Rattle.steps.specs.Took.{gives, stop, then}
use Rattle.crate_descriptors.specs.Descriptors.{string}
use Rattle.crate_descriptors.specs.declared.Slot.TheVariants.{Described}
use Rattle.crate_descriptors.proofs.take_string.Goals as goal

pub returns-in_err-text : goal.returns-in_err-text
unfolding string
returns-in_err-text c = stop _ c.in_err-text.ensures (search rules)

pub returns : goal.returns
unfolding string
returns c = then _ c.in_ok-text.ensures (gives (ap (λ d. Ok (Described d)) c.string_of.ensures))
