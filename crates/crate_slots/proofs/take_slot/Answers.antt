-- `crate_slots::take_slot` meets its contract: a timing, or what the descriptor adds. Assumes nothing.
use Rattle.std.proofs.Common.{rules, ap, ◌∙◌, eq-eqb, ne_eqb}
use Rattle.steps.specs.Laws.{picked, picked_not}
use Rattle.steps.specs.Took.{then, stop_with, gives, refuses, as_of}
use Rattle.crate_slots.specs.Filling.{fill_turn, fill_slot}
use Rattle.crate_slots.proofs.take_slot.Goals as goal

pub returns-in_err-timing-clause-takes : goal.returns-in_err-timing-clause-takes
unfolding fill_slot
returns-in_err-timing-clause-takes c = stop_with _ _ c.in_err-timing.ensures (search rules)

pub returns-in-Some-clause-takes : goal.returns-in-Some-clause-takes
unfolding fill_slot
returns-in-Some-clause-takes c = then _ c.in_ok-timing.ensures (as_of (ap (fill_turn _ _) c.in-Some.is) (gives (rw c.push.ensures)))

pub returns-then-i-eq0-clause-takes : goal.returns-then-i-eq0-clause-takes
unfolding fill_slot
returns-then-i-eq0-clause-takes c =
    then _ c.in_ok-timing.ensures (as_of (ap (fill_turn _ _) c.in_default.is ∙ picked _ _ _ (eq-eqb _ _ c.if-i-eq0.true)) refuses)

pub returns-clause-takes : goal.returns-clause-takes
unfolding fill_slot
returns-clause-takes c =
    then _ c.in_ok-timing.ensures (as_of (ap (fill_turn _ _) c.in_default.is ∙ picked_not _ _ _ (ne_eqb _ _ c.if-i-eq0.false)) c.take_described.ensures.takes)
