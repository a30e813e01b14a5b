-- `crate_slots::take_described` meets its contract: what the descriptor is says what is pushed. Assumes nothing.
use Rattle.std.proofs.Common.{rules, refl, ap, ◌∙◌}
use Rattle.steps.specs.Took.{then, stop_with, gives, as_of}
use Rattle.crate_descriptors.specs.declared.Slot.TheVariants.{White}
use Rattle.crate_slots.specs.Filling.{fill_by, fill_described}
use Rattle.crate_slots.proofs.take_described.Goals as goal

pub returns-in_err-take_descriptor-clause-takes : goal.returns-in_err-take_descriptor-clause-takes
unfolding fill_described
returns-in_err-take_descriptor-clause-takes c = stop_with _ _ c.in_err-take_descriptor.ensures (search rules)

pub returns-in-Nothing-clause-takes : goal.returns-in-Nothing-clause-takes
unfolding fill_described
returns-in-Nothing-clause-takes c = then _ c.in_ok-take_descriptor.ensures (as_of (ap (fill_by _) c.in-Nothing.is) (gives refl))

pub returns-in-Described-clause-takes : goal.returns-in-Described-clause-takes
unfolding fill_described
returns-in-Described-clause-takes c = then _ c.in_ok-take_descriptor.ensures (as_of (ap (fill_by _) c.in-Described.is) (gives (rw c.push.ensures)))

pub returns-in-White-One-clause-takes : goal.returns-in-White-One-clause-takes
unfolding fill_described
returns-in-White-One-clause-takes c = then _ c.in_ok-take_descriptor.ensures (as_of (ap (fill_by _) (c.in-White-One.is ∙ ap White c.in-White-One.field-0-is)) (gives (rw c.push-in-White-One.ensures)))

pub returns-in-White-Two-clause-takes : goal.returns-in-White-Two-clause-takes
unfolding fill_described
returns-in-White-Two-clause-takes c = then _ c.in_ok-take_descriptor.ensures (as_of (ap (fill_by _) (c.in-White-Two.is ∙ ap White c.in-White-Two.field-0-is)) (gives (rw (c.push-in-White-Two-2.ensures, c.push-in-White-Two.ensures))))

pub returns-in_err-standard-in-Six-clause-takes : goal.returns-in_err-standard-in-Six-clause-takes
unfolding fill_described
returns-in_err-standard-in-Six-clause-takes c =
    then _ c.in_ok-take_descriptor.ensures (as_of (ap (fill_by _) c.in-Six.is) (stop_with _ _ c.in_err-standard-in-Six.ensures (search rules)))

pub returns-in_err-take_closing-in-Six-clause-takes : goal.returns-in_err-take_closing-in-Six-clause-takes
unfolding fill_described
returns-in_err-take_closing-in-Six-clause-takes c =
    then _ c.in_ok-take_descriptor.ensures (as_of (ap (fill_by _) c.in-Six.is)
    (then _ c.in_ok-standard-in-Six.ensures (stop_with _ _ c.in_err-take_closing-in-Six.ensures (search rules))))

pub returns-in_ok-take_closing-in-Six-clause-takes : goal.returns-in_ok-take_closing-in-Six-clause-takes
unfolding fill_described
returns-in_ok-take_closing-in-Six-clause-takes c =
    then _ c.in_ok-take_descriptor.ensures (as_of (ap (fill_by _) c.in-Six.is)
    (then _ c.in_ok-standard-in-Six.ensures (then _ c.in_ok-take_closing-in-Six.ensures (gives refl))))
