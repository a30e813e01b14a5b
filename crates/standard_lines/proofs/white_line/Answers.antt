-- `standard_lines::white_line` meets its contract. Assumes nothing.
use Rattle.page.specs.Laws.{pieces, no_pieces}
use Rattle.standard_lines.specs.Lines.{white_line}
use Rattle.standard_lines.proofs.white_line.Goals as goal

pub returns : goal.returns
unfolding white_line
returns c = simp (pieces, no_pieces) (cc)
