-- `crate_timings::take_established` meets its contract: one read after the other. Assumes nothing.
use Rattle.std.proofs.Common.{rules, ap, Ok}
use Rattle.steps.specs.Took.{then, stop, gives, as_of}
use Rattle.crate_timings.specs.Filling.{established_filled}
use Rattle.crate_timings.proofs.take_established.Goals as goal

pub returns-in_err-ft : goal.returns-in_err-ft
returns-in_err-ft c = as_of established_filled (stop _ c.in_err-ft.ensures (search rules))

pub returns-in_err-last : goal.returns-in_err-last
returns-in_err-last c = as_of established_filled (then _ c.in_ok-ft.ensures (stop _ c.in_err-last.ensures (search rules)))

pub returns : goal.returns
returns c = as_of established_filled (then _ c.in_ok-ft.ensures (then _ c.in_ok-last.ensures (gives (ap Ok c.established_of.ensures))))
