-- `crate_descriptors::take_second` meets its contract: the index picks what follows. Assumes nothing.
use Rattle.std.proofs.Common.{rules, refl, eq-eqb, ne_eqb}
use Rattle.steps.specs.Laws.{picked, picked_not}
use Rattle.steps.specs.Took.{then, stop, gives, as_of}
use Rattle.crate_descriptors.specs.Descriptors.{second}
use Rattle.crate_descriptors.proofs.take_second.Goals as goal

pub returns-in_err-q : goal.returns-in_err-q
unfolding second
returns-in_err-q c = stop _ c.in_err-q.ensures (search rules)

pub returns-then-q-eq0 : goal.returns-then-q-eq0
unfolding second
returns-then-q-eq0 c = then _ c.in_ok-q.ensures (as_of (picked _ _ _ (eq-eqb _ _ c.if-q-eq0.true)) c.take_ended.ensures)

pub returns-else-q-eq0 : goal.returns-else-q-eq0
unfolding second
returns-else-q-eq0 c = then _ c.in_ok-q.ensures (as_of (picked_not _ _ _ (ne_eqb _ _ c.if-q-eq0.false)) (gives refl))
