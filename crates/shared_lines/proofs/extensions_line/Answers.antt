-- `shared_lines::extensions_line` meets its contract. Assumes nothing.
use Rattle.page.specs.Laws.{pieces, no_pieces}
use Rattle.shared_lines.specs.Lines.{extensions_line}
use Rattle.shared_lines.proofs.extensions_line.Goals as goal

pub returns : goal.returns
unfolding extensions_line
returns c = simp (pieces, no_pieces) (cc)
