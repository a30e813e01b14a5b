-- `crate_text::take_padding` meets its contract: what is left of the padding at the cursor. Assumes nothing.
use Rattle.std.proofs.Common.{◌-◌}
use Rattle.steps.specs.Took.{Left}
use Rattle.crate_text.specs.Text.{padding}
use Rattle.crate_text.proofs.take_padding.Given as goal

abbrev pub invariant-loop : goal.invariant-loop
invariant-loop l = Left (padding (12 - l.fn.n)) l.initial.c (padding (12 - l.counter)) l.c
