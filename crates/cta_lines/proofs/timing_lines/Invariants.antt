-- `cta_lines::timing_lines` meets its contract. The invariant: the lines of the list's elements so far are appended. Assumes nothing.
use Rattle.std.proofs.Common.{◌≡◌, take}
use Rattle.page.specs.Page.{◌▷◌}
use Rattle.page.specs.Words.{each}
use Rattle.cta_lines.specs.Lines.{timing_line}
use Rattle.cta_lines.proofs.timing_lines.Given as goal

abbrev pub invariant-loop-x : goal.invariant-loop-x
invariant-loop-x l = l.page ≡ l.initial.page ▷ each timing_line (take l.x-index l.x-items)
