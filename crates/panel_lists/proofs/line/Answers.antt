-- `panel_lists::line` meets its contract: by whether the place at i is before the last, and a line stands there. Assumes nothing.
use Rattle.std.specs.Prelude.{◌-◌, ◌<◌, Some, length, ◌≡◌}
use Rattle.std.proofs.Common.{ap, ◌∙◌, rules, arith}
use Rattle.panel_lists.specs.Laws.{line_past, line_missing, line_told}
use Rattle.panel_lists.proofs.line.Goals as goal

pub returns-then-i-saturating_sub : goal.returns-then-i-saturating_sub
returns-then-i-saturating_sub c =
    line_past _ _ _ _ (omega (arith, c.saturating_sub.ensures, c.if-i-saturating_sub.true))

pub returns-then-is_empty : goal.returns-then-is_empty
returns-then-is_empty c =
    let e : length c.content-l.result.now ≡ 0 = search rules in
    line_missing _ _ _ _ (rw c.content-l.ensures at e)

pub returns-else-is_empty : goal.returns-else-is_empty
returns-else-is_empty c =
    let h : c.args.i < c.args.to - c.args.from = omega (arith, c.saturating_sub.ensures, c.if-i-saturating_sub.false) in
    let e : length c.content-l.result.now ≡ 0 → ⊥ = λ z. search rules in
    ap Some c.content-l.ensures ∙ line_told _ _ _ _ h (rw c.content-l.ensures at e)
