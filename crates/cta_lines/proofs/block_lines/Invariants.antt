-- `cta_lines::block_lines` meets its contract. The invariant: the lines of the list's elements so far are appended. Assumes nothing.
use Rattle.std.proofs.Common.{◌≡◌, take}
use Rattle.page.specs.Page.{◌▷◌}
use Rattle.page.specs.Words.{each}
use Rattle.cta_lines.specs.Lines.{block_line}
use Rattle.cta_lines.proofs.block_lines.Given as goal

abbrev pub invariant-loop-x : goal.invariant-loop-x
invariant-loop-x l = l.page ≡ l.initial.page ▷ each (block_line l.s) (take l.x-index l.x-items)
