-- `crate_descriptors::take_gtf` meets its contract: one read after the other. Assumes nothing.
use Rattle.std.proofs.Common.{Ok, ap, eq-eqb, ne_eqb, rules}
use Rattle.steps.specs.Took.{fails, gives, holds, stop, stop_two, then, then_two}
use Rattle.crate_descriptors.specs.Descriptors.{gtf}
use Rattle.crate_descriptors.proofs.take_gtf.Goals as goal

pub returns-in_err-byte : goal.returns-in_err-byte
unfolding gtf
returns-in_err-byte c = stop _ c.in_err-byte.ensures (search rules)

pub returns-then-branch-ne0 : goal.returns-then-branch-ne0
unfolding gtf
returns-then-branch-ne0 c = then _ c.in_ok-byte.ensures (fails _ 4 _ (ne_eqb _ _ c.if-branch-ne0.true))

pub returns-in_err-start : goal.returns-in_err-start
unfolding gtf
returns-in_err-start c =
    then _ c.in_ok-byte.ensures (holds _ 4 _ (eq-eqb _ _ c.if-branch-ne0.false) (stop_two _ c.in_err-start.ensures (search rules)))

pub returns-in_err-m : goal.returns-in_err-m
unfolding gtf
returns-in_err-m c =
    then _ c.in_ok-byte.ensures (holds _ 4 _ (eq-eqb _ _ c.if-branch-ne0.false) (then_two _ c.in_ok-start.ensures (stop _ c.in_err-m.ensures (search rules))))

pub returns-in_err-k : goal.returns-in_err-k
unfolding gtf
returns-in_err-k c =
    then _ c.in_ok-byte.ensures (holds _ 4 _ (eq-eqb _ _ c.if-branch-ne0.false) (then_two _ c.in_ok-start.ensures (then _ c.in_ok-m.ensures (stop_two _ c.in_err-k.ensures (search rules)))))

pub returns : goal.returns
unfolding gtf
returns c =
    then _ c.in_ok-byte.ensures (holds _ 4 _ (eq-eqb _ _ c.if-branch-ne0.false) (then_two _ c.in_ok-start.ensures (then _ c.in_ok-m.ensures (then_two _ c.in_ok-k.ensures (gives (ap Ok c.gtf_of.ensures))))))
