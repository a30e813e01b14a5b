-- `panel_lines::text_bytes` meets its contract. The invariant: the lines of the list's elements so far are appended. Assumes nothing.
use Rattle.std.proofs.Common.{◌≡◌, take}
use Rattle.page.specs.Page.{◌▷◌}
use Rattle.page.specs.Words.{each}
use Rattle.panel_lines.specs.Lines.{text_byte}
use Rattle.panel_lines.proofs.text_bytes.Given as goal

abbrev pub invariant-loop-b : goal.invariant-loop-b
invariant-loop-b l = l.page ≡ l.initial.page ▷ each text_byte (take l.b-index l.t)
