-- `crate_descriptors::take_points` meets its contract: the index picks what follows. Assumes nothing.
use Rattle.std.proofs.Common.{rules, eq-eqb, ne_eqb}
use Rattle.steps.specs.Laws.{picked, picked_not}
use Rattle.steps.specs.Took.{then, stop, as_of}
use Rattle.crate_descriptors.specs.Descriptors.{points}
use Rattle.crate_descriptors.proofs.take_points.Goals as goal

pub returns-in_err-p : goal.returns-in_err-p
unfolding points
returns-in_err-p c = stop _ c.in_err-p.ensures (search rules)

pub returns-then-p-eq0 : goal.returns-then-p-eq0
unfolding points
returns-then-p-eq0 c = then _ c.in_ok-p.ensures (as_of (picked _ _ _ (eq-eqb _ _ c.if-p-eq0.true)) c.take_ended.ensures)

pub returns-else-p-eq0 : goal.returns-else-p-eq0
unfolding points
returns-else-p-eq0 c = then _ c.in_ok-p.ensures (as_of (picked_not _ _ _ (ne_eqb _ _ c.if-p-eq0.false)) c.take_second.ensures)
