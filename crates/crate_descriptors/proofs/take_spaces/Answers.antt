-- `crate_descriptors::take_spaces` meets its contract: what is left of the spaces at the cursor. Assumes nothing.
use Rattle.std.proofs.Common.{rules, refl, eq-eqb, ne_eqb}
use Rattle.steps.specs.Took.{then, stop, gives, holds, fails, as_of}
use Rattle.crate_descriptors.specs.Laws.{spaces_more, spaces_end}
use Rattle.crate_descriptors.proofs.take_spaces.Goals as goal

pub returns-in_err-word : goal.returns-in_err-word
returns-in_err-word c =
    c.loop.invariant _ _ (as_of (spaces_more _ _ c.loop-test.true) (stop _ c.in_err-word.ensures (search rules)))

pub returns-then-branch-ne8224 : goal.returns-then-branch-ne8224
returns-then-branch-ne8224 c =
    c.loop.invariant _ _ (as_of (spaces_more _ _ c.loop-test.true)
    (then _ c.in_ok-word.ensures (fails _ 5 _ (ne_eqb _ _ c.if-branch-ne8224.true))))

pub loop-preserved : goal.loop-preserved
loop-preserved c = λ r new t.
    c.loop.invariant _ _ (as_of (spaces_more _ _ c.loop-test.true)
    (then _ c.in_ok-word.ensures (holds _ 5 _ (eq-eqb _ _ c.if-branch-ne8224.false) t)))

pub returns : goal.returns
returns c = c.loop.invariant _ _ (as_of (spaces_end _ _ c.loop-test.false) (gives refl))
