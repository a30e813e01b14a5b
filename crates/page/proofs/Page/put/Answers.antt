-- `page::Page::put` meets its contract. Assumes nothing.
use Rattle.page.specs.Laws.{room, full}
use Rattle.page.proofs.Page.put.Goals as goal

pub returns-then-self-lt4096 : goal.returns-then-self-lt4096
returns-then-self-lt4096 c = room _ _ c.if-self-lt4096.true

pub returns-else-self-lt4096 : goal.returns-else-self-lt4096
returns-else-self-lt4096 c = full _ _ c.if-self-lt4096.false
