-- `crate_text::take_skip` meets its contract: the test says whether all n bytes are there. Assumes nothing.
use Rattle.std.proofs.Common.{arith}
use Rattle.crate_text.specs.Laws.{skipped, not_skipped}
use Rattle.crate_text.proofs.take_skip.Goals as goal

pub returns-then-n-left : goal.returns-then-n-left
returns-then-n-left c = skipped _ _ (omega (arith, c.saturating_sub-left.ensures, c.if-n-left.true))

pub returns : goal.returns
returns c = not_skipped _ _ _ c.saturating_sub-left.ensures c.if-n-left.false
