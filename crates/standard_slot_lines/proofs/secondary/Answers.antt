-- `standard_slot_lines::secondary` meets its contract. Assumes nothing.
use Rattle.page.specs.Laws.{pieces, no_pieces}
use Rattle.standard_slot_lines.specs.Lines.{secondary}
use Rattle.standard_slot_lines.proofs.secondary.Goals as goal

pub returns-in-GTF : goal.returns-in-GTF
unfolding secondary
returns-in-GTF c = rw c.in-GTF.is (simp (pieces, no_pieces) (cc))
