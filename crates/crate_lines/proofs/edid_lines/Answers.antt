-- `crate_lines::edid_lines` meets its contract. Assumes nothing.
use Rattle.page.specs.Laws.{pieces, no_pieces}
use Rattle.crate_lines.specs.Lines.{edid_lines}
use Rattle.crate_lines.proofs.edid_lines.Goals as goal

pub returns : goal.returns
unfolding edid_lines
returns c = simp (pieces, no_pieces) (cc)
