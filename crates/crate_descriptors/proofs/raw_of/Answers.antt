-- `crate_descriptors::raw_of` meets its contract: the test picks the case. Assumes nothing.
use borrow.Author.Tests.{lt-ltb, le-ltb}
use Rattle.crate_descriptors.specs.Descriptors.{raw_of}
use Rattle.crate_descriptors.proofs.raw_of.Goals as goal

pub returns-then-tag-lt16 : goal.returns-then-tag-lt16
unfolding raw_of
returns-then-tag-lt16 c = simp (lt-ltb _ _ c.if-tag-lt16.true)

pub returns-else-tag-lt16 : goal.returns-else-tag-lt16
unfolding raw_of
returns-else-tag-lt16 c = simp (le-ltb _ _ c.if-tag-lt16.false)
