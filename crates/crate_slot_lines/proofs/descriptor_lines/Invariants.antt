-- `crate_slot_lines::descriptor_lines` meets its contract. The invariant: the lines of the list's elements so far are appended. Assumes nothing.
use Rattle.std.proofs.Common.{◌≡◌, take}
use Rattle.page.specs.Page.{◌▷◌}
use Rattle.page.specs.Words.{each}
use Rattle.crate_slot_lines.specs.Lines.{descriptor_line}
use Rattle.crate_slot_lines.proofs.descriptor_lines.Given as goal

abbrev pub invariant-loop-x : goal.invariant-loop-x
invariant-loop-x l = l.page ≡ l.initial.page ▷ each (descriptor_line l.s) (take l.x-index l.x-items)
