-- `standard_lines::letter` meets its contract. Assumes nothing.
use Rattle.std.proofs.Common.{ne_eqb}
use Rattle.page.specs.Laws.{joined}
use Rattle.standard_lines.specs.Lines.{letter}
use Rattle.standard_lines.proofs.letter.Goals as goal

pub returns-else-b-eq0 : goal.returns-else-b-eq0
unfolding letter
returns-else-b-eq0 c = rw (ne_eqb _ _ c.if-b-eq0.false, ← joined) (cc)
