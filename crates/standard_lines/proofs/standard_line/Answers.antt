-- `standard_lines::standard_line` meets its contract. Assumes nothing.
use Rattle.page.specs.Laws.{pieces, no_pieces}
use Rattle.standard_lines.specs.Lines.{standard_line}
use Rattle.standard_lines.proofs.standard_line.Goals as goal

pub returns : goal.returns
unfolding standard_line
returns c = simp (pieces, no_pieces) (cc)
