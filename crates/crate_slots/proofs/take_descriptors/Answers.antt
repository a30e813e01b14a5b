-- `crate_slots::take_descriptors` meets its contract: what is left of the slots at the cursor, with the lists so far. Assumes nothing.
use Rattle.std.proofs.Common.{rules, refl}
use Rattle.steps.specs.Took.{then, stop, gives, as_of}
use Rattle.crate_slots.specs.Filling.{turn, no_turn, slots_filled}
use Rattle.crate_slots.proofs.take_descriptors.Goals as goal

pub loop-i-init : goal.loop-i-init
loop-i-init c = λ r new t. t

pub returns-in_err-take_slot : goal.returns-in_err-take_slot
returns-in_err-take_slot c =
    as_of (slots_filled _)
    (c.loop-i.invariant _ _ (as_of (turn _ _ c.loop-i-test.true) (stop _ c.in_err-take_slot.ensures.takes (search rules))))

pub loop-i-preserved : goal.loop-i-preserved
loop-i-preserved c = λ r new t.
    c.loop-i.invariant _ _ (as_of (turn _ _ c.loop-i-test.true) (then _ c.in_ok-take_slot.ensures.takes t))

pub returns : goal.returns
returns c = as_of (slots_filled _) (c.loop-i.invariant _ _ (as_of (no_turn _ _ c.loop-i-test.false) (gives refl)))
