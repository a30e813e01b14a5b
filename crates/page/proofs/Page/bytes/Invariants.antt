-- `page::Page::bytes` meets its contract. The invariant: the bytes of s so far are appended. Assumes nothing.
use Rattle.std.proofs.Common.{◌≡◌, take}
use Rattle.page.specs.Page.{◌▷◌}
use Rattle.page.proofs.Page.bytes.Given as goal

abbrev pub invariant-loop-b : goal.invariant-loop-b
invariant-loop-b l = l.self ≡ l.initial.self ▷ take l.b-index l.s
