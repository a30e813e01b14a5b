-- `standard_lines::record_lines` meets its contract. Assumes nothing.
use Rattle.page.specs.Laws.{pieces, no_pieces}
use Rattle.standard_lines.specs.Main.{main_first}
use Rattle.standard_lines.proofs.record_lines.Goals as goal

pub returns : goal.returns
returns c = rw (main_first c.args.s.now c.args.e) (simp (pieces, no_pieces) (cc))
