-- `marking::marks_lines` meets its contract. Assumes nothing.
use Rattle.page.specs.Laws.{pieces, no_pieces}
use Rattle.marking.specs.Lines.{marks_lines}
use Rattle.marking.proofs.marks_lines.Goals as goal

pub returns : goal.returns
unfolding marks_lines
returns c = simp (pieces, no_pieces) (cc)
