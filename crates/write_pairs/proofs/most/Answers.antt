-- `write_pairs::most` meets its contract: each arm by its test. Assumes nothing.
use borrow.Author.Rules.{rules}
use borrow.Author.Tests.{eq-eqb, ne_eqb}
use Rattle.write_pairs.proofs.most.Goals as goal

pub returns-then-number-eq0 : goal.returns-then-number-eq0
returns-then-number-eq0 c = (rw (eq-eqb _ _ c.if-number-eq0.true), search rules)

pub returns-else-number-eq0 : goal.returns-else-number-eq0
returns-else-number-eq0 c = (rw (ne_eqb _ _ c.if-number-eq0.false), search rules)
