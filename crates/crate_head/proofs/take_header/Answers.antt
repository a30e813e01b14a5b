-- `crate_head::take_header` meets its contract: one read after the other. Assumes nothing.
use Rattle.std.proofs.Common.{rules, refl, eq-eqb, ne_eqb}
use Rattle.steps.specs.Took.{then, stop, gives, holds, fails}
use Rattle.crate_head.specs.Head.{header}
use Rattle.crate_head.proofs.take_header.Goals as goal

pub returns-in_err-a : goal.returns-in_err-a
unfolding header
returns-in_err-a c = stop _ c.in_err-a.ensures (search rules)

pub returns-then-a : goal.returns-then-a
unfolding header
returns-then-a c = then _ c.in_ok-a.ensures (fails _ 2 _ (ne_eqb _ _ c.if-a.true))

pub returns-in_err-b : goal.returns-in_err-b
unfolding header
returns-in_err-b c =
    then _ c.in_ok-a.ensures (holds _ 2 _ (eq-eqb _ _ c.if-a.false)
    (stop _ c.in_err-b.ensures (search rules)))

pub returns-then-b-ne16777215 : goal.returns-then-b-ne16777215
unfolding header
returns-then-b-ne16777215 c =
    then _ c.in_ok-a.ensures (holds _ 2 _ (eq-eqb _ _ c.if-a.false)
    (then _ c.in_ok-b.ensures (fails _ 2 _ (ne_eqb _ _ c.if-b-ne16777215.true))))

pub returns : goal.returns
unfolding header
returns c =
    then _ c.in_ok-a.ensures (holds _ 2 _ (eq-eqb _ _ c.if-a.false)
    (then _ c.in_ok-b.ensures (holds _ 2 _ (eq-eqb _ _ c.if-b-ne16777215.false) (gives refl))))
