-- `page::Page::hex_run` meets its contract. The invariant: the digits of the bytes of s so far are appended. Assumes nothing.
use Rattle.std.proofs.Common.{◌≡◌, take}
use Rattle.page.specs.Page.{◌▷◌}
use Rattle.page.specs.Words.{hex_of2, each}
use Rattle.page.proofs.Page.hex_run.Given as goal

abbrev pub invariant-loop-x : goal.invariant-loop-x
invariant-loop-x l = l.self ≡ l.initial.self ▷ each hex_of2 (take l.x-index l.s)
