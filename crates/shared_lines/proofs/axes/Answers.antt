-- `shared_lines::axes` meets its contract. Assumes nothing.
use Rattle.page.specs.Laws.{pieces, no_pieces}
use Rattle.shared_lines.specs.Lines.{axes}
use Rattle.shared_lines.proofs.axes.Goals as goal

pub returns : goal.returns
unfolding axes
returns c = simp (pieces, no_pieces) (cc)
