-- `panel_lines::text_byte` meets its contract. Assumes nothing.
use Rattle.page.specs.Words.{hex_of2, each}
use Rattle.page.specs.Laws.{pieces, no_pieces}
use Rattle.panel_lines.specs.Lines.{text_byte}
use Rattle.panel_lines.proofs.text_byte.Goals as goal

pub returns-else-is_plain : goal.returns-else-is_plain
unfolding text_byte each hex_of2
returns-else-is_plain c = rw (← c.is_plain.ensures, c.if-is_plain.false) (simp (pieces, no_pieces) (cc))
