-- `shared_lines::established_line` meets its contract. Assumes nothing.
use Rattle.page.specs.Laws.{pieces, no_pieces}
use Rattle.shared_lines.specs.Lines.{established_line}
use Rattle.shared_lines.proofs.established_line.Goals as goal

pub returns : goal.returns
unfolding established_line
returns c = simp (pieces, no_pieces) (cc)
