-- `crate_text::take_span` meets its contract: one read. Assumes nothing.
use Rattle.std.proofs.Common.{rules, refl}
use Rattle.steps.specs.Took.{then, stop, gives, at_place}
use Rattle.crate_text.specs.Text.{span}
use Rattle.crate_text.proofs.take_span.Goals as goal

pub returns-in_err-take_skip : goal.returns-in_err-take_skip
unfolding span
returns-in_err-take_skip c = at_place _ (stop _ c.in_err-take_skip.ensures (search rules))

pub returns : goal.returns
unfolding span
returns c = at_place _ (then _ c.in_ok-take_skip.ensures (gives refl))
