-- `standard_lines::standard_lines` meets its contract. The invariant: the lines of the list's elements so far are appended. Assumes nothing.
use Rattle.std.proofs.Common.{◌≡◌, take}
use Rattle.page.specs.Page.{◌▷◌}
use Rattle.page.specs.Words.{each}
use Rattle.standard_lines.specs.Lines.{standard_line}
use Rattle.standard_lines.proofs.standard_lines.Given as goal

abbrev pub invariant-loop-x : goal.invariant-loop-x
invariant-loop-x l = l.page ≡ l.initial.page ▷ each standard_line (take l.x-index l.x-items)
