-- `standard_lines::features_by` meets its contract. Assumes nothing.
use Rattle.page.specs.Laws.{pieces, no_pieces}
use Rattle.standard_lines.specs.Lines.{features_by}
use Rattle.standard_lines.proofs.features_by.Goals as goal

pub returns-in-Encodings : goal.returns-in-Encodings
unfolding features_by
returns-in-Encodings c = rw c.in-Encodings.is (simp (pieces, no_pieces) (cc))
