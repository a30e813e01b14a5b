-- `crate_descriptors::take_raw` meets its contract: one read after the other. Assumes nothing.
use Rattle.std.proofs.Common.{Ok, ap, rules}
use Rattle.steps.specs.Took.{gives, stop, then}
use Rattle.crate_descriptors.specs.Descriptors.{raw}
use Rattle.crate_descriptors.specs.declared.Slot.TheVariants.{Described}
use Rattle.crate_descriptors.proofs.take_raw.Goals as goal

pub returns-in_err-run : goal.returns-in_err-run
unfolding raw
returns-in_err-run c = stop _ c.in_err-run.ensures (search rules)

pub returns : goal.returns
unfolding raw
returns c = then _ c.in_ok-run.ensures (gives (ap (λ d. Ok (Described d)) c.raw_of.ensures))
