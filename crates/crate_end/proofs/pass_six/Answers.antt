-- `crate_end::pass_six` meets its contract: one read after the other. Assumes nothing.
use Rattle.std.proofs.Common.{rules, refl}
use Rattle.steps.specs.Took.{then, stop, gives, as_of}
use Rattle.crate_end.specs.Whole.{six_bare}
use Rattle.crate_end.proofs.pass_six.Goals as goal

pub returns-in_err-take_skip : goal.returns-in_err-take_skip
returns-in_err-take_skip c = as_of six_bare (stop _ c.in_err-take_skip.ensures (search rules))

pub returns-in_err-take_closing : goal.returns-in_err-take_closing
returns-in_err-take_closing c = as_of six_bare (then _ c.in_ok-take_skip.ensures (stop _ c.in_err-take_closing.ensures (search rules)))

pub returns : goal.returns
returns c = as_of six_bare (then _ c.in_ok-take_skip.ensures (then _ c.in_ok-take_closing.ensures (gives refl)))
