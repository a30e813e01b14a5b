-- `standard_lines::numbers` meets its contract. Assumes nothing.
use Rattle.page.specs.Laws.{pieces, no_pieces}
use Rattle.standard_lines.specs.Lines.{numbers}
use Rattle.standard_lines.proofs.numbers.Goals as goal

pub returns-in-ModelYear : goal.returns-in-ModelYear
unfolding numbers
returns-in-ModelYear c = rw c.in-ModelYear.is (simp (pieces, no_pieces) (cc))
