-- `standard_lines::size_line` meets its contract. Assumes nothing.
use Rattle.page.specs.Laws.{pieces, no_pieces}
use Rattle.standard_lines.specs.Lines.{size_line}
use Rattle.standard_lines.proofs.size_line.Goals as goal

pub returns-in-Ratio : goal.returns-in-Ratio
unfolding size_line
returns-in-Ratio c = rw c.in-Ratio.is (simp (pieces, no_pieces) (cc))
