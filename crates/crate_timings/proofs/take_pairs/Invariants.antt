-- `crate_timings::take_pairs` meets its contract: what is left of the pairs at the cursor, with the list so far. Assumes nothing.
use Rattle.std.proofs.Common.{◌-◌}
use Rattle.steps.specs.Took.{Left}
use Rattle.crate_timings.specs.Pairs.{fill_pairs}
use Rattle.crate_timings.proofs.take_pairs.Given as goal

abbrev pub invariant-loop : goal.invariant-loop
invariant-loop l = Left (fill_pairs l.fn.n l.initial.list) l.initial.c (fill_pairs (l.fn.n - l.counter) l.list) l.c
