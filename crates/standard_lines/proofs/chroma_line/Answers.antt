-- `standard_lines::chroma_line` meets its contract. Assumes nothing.
use Rattle.page.specs.Laws.{pieces, no_pieces}
use Rattle.standard_lines.specs.Lines.{chroma_line}
use Rattle.standard_lines.proofs.chroma_line.Goals as goal

pub returns : goal.returns
unfolding chroma_line
returns c = simp (pieces, no_pieces) (cc)
