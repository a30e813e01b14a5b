-- `text_lines::find` meets its contract. The invariant: the line looked for is the one at `left` of what is left of the text. Assumes nothing.
use mathlib.Core.Path.{sym, ◌∙◌}
use native.Mathlib.Omega.{arith}
use borrow.Author.Rules.{rules}
use borrow.Author.Tests.{not-true, not-false}
use Rattle.text_lines.specs.Walk.{begun, inside, passed, counted_off, reached, over}
use Rattle.text_lines.proofs.find.Goals as goal
use Rattle.text_lines.proofs.find.Goals.{then-not-is_idle+else-left-eq0, else-not-is_idle}

pub loop-at-init : goal.loop-at-init
loop-at-init c = (begun _ _, search rules)

pub returns-then-left-eq0 : goal.returns-then-left-eq0
returns-then-left-eq0 c =
    reached _ _ _ (search rules) c.line_end-end.ensures _ _ _ c.loop-at.invariant.0 (sym c.is_idle.ensures ∙ not-true _ c.if-not-is_idle.true-raw) c.if-left-eq0.true

pub returns : goal.returns
returns c = over c.args.s.now _ _ _ c.loop-at.at (search rules) c.loop-at.invariant.0

pub slice_bounds-is_idle-end : goal.slice_bounds-is_idle-end
slice_bounds-is_idle-end c = inside c.args.s.now c.loop-at.at _ (search rules) c.line_end-end.ensures

pub overflow_add-at : goal.overflow_add-at
overflow_add-at c = omega (arith, inside c.args.s.now c.loop-at.at c.line_end-end.result (search rules) c.line_end-end.ensures)

pub loop-at-preserved : goal.loop-at-preserved
loop-at-preserved c = (
  elim c.if-not-is_idle.branch [
    | then-not-is_idle+else-left-eq0 w ↦ rw w.left-is (counted_off _ _ _ (search rules) c.line_end-end.ensures _ _ _ c.loop-at.invariant.0 (sym c.is_idle.ensures ∙ not-true _ w.if-not-is_idle.true-raw) w.if-left-eq0.false)
    | else-not-is_idle w ↦ rw w.left-is (passed _ _ _ (search rules) c.line_end-end.ensures _ _ _ c.loop-at.invariant.0 (sym c.is_idle.ensures ∙ not-false _ w.if-not-is_idle.false-raw))
  ],
  search rules,
)
