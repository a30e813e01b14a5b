-- `crate_end::pass_descriptor` meets its contract: a read, and what its answer leaves to be taken. Assumes nothing.
use Rattle.std.proofs.Common.{rules, refl, ap, ◌≡◌, ◌⊎◌, inl, inr}
use Rattle.steps.specs.Steps.{done}
use Rattle.steps.specs.Took.{then, stop, gives, as_of}
use Rattle.crate_record.specs.declared.MonitorDescriptor.{MonitorDescriptor}
use Rattle.crate_descriptors.specs.declared.Points.{Points}
use Rattle.crate_descriptors.specs.declared.Slot.{Slot}
use Rattle.crate_descriptors.specs.declared.Slot.TheVariants.{Nothing, Described, White}
use Rattle.crate_slots.specs.Slots.{said_by}
use Rattle.crate_end.specs.Ends.{bare}
use Rattle.crate_end.specs.Whole.{none_bare}
use Rattle.crate_end.proofs.pass_descriptor.Goals as goal

-- of these three nothing is left to be taken
no_more : {x : Slot} → x ≡ Nothing ⊎ (((d : MonitorDescriptor) × x ≡ Described d) ⊎ ((p : Points) × x ≡ White p)) → bare (said_by x) ≡ done tt
no_more (inl e) = ap (λ x. bare (said_by x)) e
no_more (inr (inl (d, e))) = ap (λ x. bare (said_by x)) e
no_more (inr (inr (p, e))) = ap (λ x. bare (said_by x)) e

pub returns-in_err-take_descriptor : goal.returns-in_err-take_descriptor
returns-in_err-take_descriptor c = as_of none_bare (stop _ c.in_err-take_descriptor.ensures (search rules))

pub returns-in-Nothing : goal.returns-in-Nothing
returns-in-Nothing c = as_of none_bare (then _ c.in_ok-take_descriptor.ensures (as_of (no_more c.in-Nothing.is) (gives refl)))

pub returns-in-Six : goal.returns-in-Six
returns-in-Six c = as_of none_bare (then _ c.in_ok-take_descriptor.ensures (as_of (ap (λ x. bare (said_by x)) c.in-Six.is) c.pass_six.ensures))
