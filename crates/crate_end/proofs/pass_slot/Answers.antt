-- `crate_end::pass_slot` meets its contract: a read, and what follows by the slot's number and the timing. Assumes nothing.
use Rattle.std.proofs.Common.{rules, refl, ap, ◌∙◌, None, ℕ}
use Rattle.steps.specs.Took.{then, stop, gives, refuses, as_of}
use Rattle.crate_end.specs.Ends.{bare, said_at, piece}
use Rattle.crate_end.specs.Whole.{some_bare, later_said}
use Rattle.crate_end.proofs.pass_slot.Goals as goal

pub returns-in_err-take_detailed : goal.returns-in_err-take_detailed
unfolding piece
returns-in_err-take_detailed c = stop _ c.in_err-take_detailed.ensures (search rules)

pub returns-in-Some : goal.returns-in-Some
unfolding piece
returns-in-Some c =
    then _ c.in_ok-take_detailed.ensures (as_of (ap (λ t. bare (said_at c.args.i t)) c.in-Some.is ∙ some_bare c.args.i _) (gives refl))

pub returns-then-i-eq0 : goal.returns-then-i-eq0
unfolding piece
returns-then-i-eq0 c =
    then _ c.in_ok-take_detailed.ensures
    (as_of (ap (λ t. bare (said_at c.args.i t)) c.in_default.is ∙ ap (λ (i : ℕ). bare (said_at i None)) c.if-i-eq0.true) refuses)

pub returns : goal.returns
unfolding piece
returns c =
    then _ c.in_ok-take_detailed.ensures
    (as_of (ap (λ t. bare (said_at c.args.i t)) c.in_default.is ∙ ap bare (later_said c.args.i None c.if-i-eq0.false)) c.pass_descriptor.ensures)
