-- `shared_lines::dpms_line` meets its contract. Assumes nothing.
use Rattle.page.specs.Laws.{pieces, no_pieces}
use Rattle.shared_lines.specs.Lines.{dpms_line}
use Rattle.shared_lines.proofs.dpms_line.Goals as goal

pub returns : goal.returns
unfolding dpms_line
returns c = simp (pieces, no_pieces) (cc)
