-- `crate_text::take_padding` meets its contract: what is left of the padding at the cursor. Assumes nothing.
use Rattle.std.proofs.Common.{rules, refl, eq-eqb, ne_eqb}
use Rattle.steps.specs.Took.{then, stop, gives, holds, fails, as_of}
use Rattle.crate_text.specs.Laws.{padding_more, padding_end}
use Rattle.crate_text.proofs.take_padding.Goals as goal

pub loop-init : goal.loop-init
loop-init c = λ r new t. t

pub returns-in_err-byte : goal.returns-in_err-byte
returns-in_err-byte c =
    c.loop.invariant _ _ (as_of (padding_more _ c.loop-test.true) (stop _ c.in_err-byte.ensures (search rules)))

pub returns-then-branch-ne32 : goal.returns-then-branch-ne32
returns-then-branch-ne32 c =
    c.loop.invariant _ _ (as_of (padding_more _ c.loop-test.true)
    (then _ c.in_ok-byte.ensures (fails _ 5 _ (ne_eqb _ _ c.if-branch-ne32.true))))

pub loop-preserved : goal.loop-preserved
loop-preserved c = λ r new t.
    c.loop.invariant _ _ (as_of (padding_more _ c.loop-test.true)
    (then _ c.in_ok-byte.ensures (holds _ 5 _ (eq-eqb _ _ c.if-branch-ne32.false) t)))

pub returns : goal.returns
returns c = c.loop.invariant _ _ (as_of (padding_end _ c.loop-test.false) (gives refl))
