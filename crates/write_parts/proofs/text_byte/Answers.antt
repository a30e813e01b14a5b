-- `write_parts::text_byte` meets its contract: each arm by its tests. Assumes nothing.
use borrow.Author.Tests.{lt-ltb, le-ltb, eq-eqb, ne_eqb}
use Rattle.write_parts.proofs.text_byte.Goals as goal

pub returns-then-k-t : goal.returns-then-k-t
returns-then-k-t c = rw (lt-ltb _ _ c.if-k-t.true)

pub returns-then-k-t-2 : goal.returns-then-k-t-2
returns-then-k-t-2 c = rw (le-ltb _ _ c.if-k-t.false, eq-eqb _ _ c.if-k-t-2.true)

pub returns-else-k-t-2 : goal.returns-else-k-t-2
returns-else-k-t-2 c = rw (le-ltb _ _ c.if-k-t.false, ne_eqb _ _ c.if-k-t-2.false)
