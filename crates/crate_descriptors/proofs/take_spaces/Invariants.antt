-- `crate_descriptors::take_spaces` meets its contract: what is left of the spaces at the cursor. Assumes nothing.
use Rattle.std.proofs.Common.{◌-◌}
use Rattle.steps.specs.Took.{Left}
use Rattle.crate_descriptors.specs.Descriptors.{spaces}
use Rattle.crate_descriptors.proofs.take_spaces.Given as goal

abbrev pub invariant-loop : goal.invariant-loop
invariant-loop l = Left (spaces l.fn.n) l.initial.c (spaces (l.fn.n - l.counter)) l.c
