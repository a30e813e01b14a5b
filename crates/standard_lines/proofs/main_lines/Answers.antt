-- `standard_lines::main_lines` meets its contract. Assumes nothing.
use Rattle.page.specs.Laws.{pieces, no_pieces}
use Rattle.standard_lines.specs.Main.{main_lines}
use Rattle.standard_lines.proofs.main_lines.Goals as goal

pub returns : goal.returns
unfolding main_lines
returns c = simp (pieces, no_pieces) (cc)
