-- `panel_lists::filled` meets its contract. The invariant: the first i items are in their places. Assumes nothing.
use Rattle.std.specs.Prelude.{◌≡◌, length}
use Rattle.std.proofs.Common.{sym, ◌∙◌, arith}
use Rattle.panel_lists.specs.Laws.{empty, one_more, none_more, full}
use Rattle.panel_lists.proofs.filled.Goals as goal

pub loop-i-init : goal.loop-i-init
loop-i-init g c = λ d xs e h. empty _ d xs _ e

pub loop-i-preserved : goal.loop-i-preserved
loop-i-preserved g c = λ d xs e h.
    one_more (c.loop-i.invariant d xs e h) c.in-Some.item c.loop-i-test.true (sym c.in-Some.is ∙ h c.loop-i.i c.given.result c.loop-i-test.true c.given.ensures)

pub returns-in-None : goal.returns-in-None
returns-in-None g c = λ d xs e h.
    none_more (c.loop-i.invariant d xs e h) (sym c.in-None.is ∙ h c.loop-i.i c.given.result c.loop-i-test.true c.given.ensures)

pub returns : goal.returns
returns g c = λ d xs e h.
    let all : c.loop-i.i ≡ length c.loop-i.items = omega (arith, c.loop-i.auto.items, c.loop-i.auto.i-end, c.loop-i-test.false) in
    rw (← all) (full (c.loop-i.invariant d xs e h) c.loop-i-test.false)
