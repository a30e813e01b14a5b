-- `shared_lines::numbers` meets its contract. The invariant: the bytes of s so far are appended. Assumes nothing.
use Rattle.std.proofs.Common.{◌≡◌, take}
use Rattle.page.specs.Page.{◌▷◌}
use Rattle.page.specs.Words.{field8, each}
use Rattle.shared_lines.proofs.numbers.Given as goal

abbrev pub invariant-loop-x : goal.invariant-loop-x
invariant-loop-x l = l.page ≡ l.initial.page ▷ each field8 (take l.x-index l.s)
