-- `crate_descriptors::take_closing` meets its contract: one read after the other. Assumes nothing.
use Rattle.std.proofs.Common.{eq-eqb, ne_eqb, rules}
use Rattle.steps.specs.Took.{fails, holds, stop, then}
use Rattle.crate_descriptors.specs.Descriptors.{closing}
use Rattle.crate_descriptors.proofs.take_closing.Goals as goal

pub returns-in_err-byte : goal.returns-in_err-byte
unfolding closing
returns-in_err-byte c = stop _ c.in_err-byte.ensures (search rules)

pub returns-then-branch-ne10 : goal.returns-then-branch-ne10
unfolding closing
returns-then-branch-ne10 c = then _ c.in_ok-byte.ensures (fails _ 4 _ (ne_eqb _ _ c.if-branch-ne10.true))

pub returns : goal.returns
unfolding closing
returns c = then _ c.in_ok-byte.ensures (holds _ 4 _ (eq-eqb _ _ c.if-branch-ne10.false) (c.take_spaces.ensures))
