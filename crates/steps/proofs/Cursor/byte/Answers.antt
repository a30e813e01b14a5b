-- `steps::Cursor::byte` meets its contract: the test says whether a byte is there. Assumes nothing.
use Rattle.std.proofs.Common.{refl, sym}
use Rattle.steps.specs.Steps.{done}
use Rattle.steps.specs.Leaves.{byte}
use Rattle.steps.specs.Laws.{run_next, run_end}
use Rattle.steps.proofs.Cursor.byte.Goals as goal

pub returns-then-at-self : goal.returns-then-at-self
unfolding byte
returns-then-at-self c = record { lent = refl; answer = sym (run_next done _ _ c.if-at-self.true); stands = tt }

pub returns-else-at-self : goal.returns-else-at-self
unfolding byte
returns-else-at-self c = record { lent = refl; answer = sym (run_end done _ _ c.if-at-self.false); stands = refl }
