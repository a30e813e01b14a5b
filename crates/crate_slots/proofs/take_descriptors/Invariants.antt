-- `crate_slots::take_descriptors` meets its contract: what is left of the slots at the cursor, with the lists so far. Assumes nothing.
use Rattle.std.proofs.Common.{◌-◌}
use Rattle.steps.specs.Took.{Left}
use Rattle.crate_slots.specs.Filling.{fill_slots}
use Rattle.crate_slots.proofs.take_descriptors.Given as goal

abbrev pub invariant-loop-i : goal.invariant-loop-i
invariant-loop-i l = Left (fill_slots 4 0 l.initial.lists) l.initial.c (fill_slots (4 - l.i) l.i l.lists) l.c
