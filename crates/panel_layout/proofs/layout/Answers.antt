-- `panel_layout::layout` meets its contract: by the tests that led there. Assumes nothing.
use Rattle.std.specs.Prelude.{◌≡◌, length, Err}
use Rattle.std.proofs.Common.{sym, ap, ◌∙◌, rules}
use Rattle.text_lines.specs.Lines.{lines, counted}
use Rattle.panel_forms.specs.Laws.{form_missing, form_there}
use Rattle.panel_layout.specs.Along.{heads_are, heads_not, is_due, not_due, head_wrong, established_wrong, extensions_wrong, too_many, all_there}
use Rattle.panel_layout.proofs.layout.Goals as goal

pub returns-in_err-heads : goal.returns-in_err-heads
returns-in_err-heads c =
    let ls = counted (lines c.args.s.now) in
    let told : c.from_residual.result ≡ Err c.in_err-heads.field-0.0 = search rules in
    let e = heads_not ls c.in_err-heads.field-0.0 (sym c.heads.ensures ∙ c.in_err-heads.was) in
    told ∙ head_wrong ls c.in_err-heads.field-0.0 e.1 e.0

pub returns-in_err-due : goal.returns-in_err-due
returns-in_err-due c =
    let ls = counted (lines c.args.s.now) in
    let told : c.from_residual-in_err-due.result ≡ Err c.in_err-due.field-0.0 = search rules in
    let e = rw c.placed-p.ensures.0 at (not_due 8 ls c.placed-p.result.established c.in_err-due.field-0.0 (sym c.due.ensures ∙ c.in_err-due.was)) in
    told ∙ ap Err e.1 ∙ established_wrong ls (heads_are ls (sym c.heads.ensures ∙ c.in_ok-heads.was)) e.0

pub returns-in_err-due-2 : goal.returns-in_err-due-2
returns-in_err-due-2 c =
    let ls = counted (lines c.args.s.now) in
    let told : c.from_residual-in_err-due-2.result ≡ Err c.in_err-due-2.field-0.0 = search rules in
    let d = rw c.placed-p.ensures.0 at (is_due 8 ls c.placed-p.result.established (sym c.due.ensures ∙ c.in_ok-due.was)) in
    let e = rw c.placed-p.ensures.0 at (not_due 12 ls c.placed-p.result.extensions c.in_err-due-2.field-0.0 (sym c.due-2.ensures ∙ c.in_err-due-2.was)) in
    told ∙ ap Err e.1 ∙ extensions_wrong ls (heads_are ls (sym c.heads.ensures ∙ c.in_ok-heads.was)) d e.0

pub returns-then-is_empty : goal.returns-then-is_empty
returns-then-is_empty c =
    let ls = counted (lines c.args.s.now) in
    let d = rw c.placed-p.ensures.0 at (is_due 8 ls c.placed-p.result.established (sym c.due.ensures ∙ c.in_ok-due.was)) in
    let l = rw c.placed-p.ensures.0 at (is_due 12 ls c.placed-p.result.extensions (sym c.due-2.ensures ∙ c.in_ok-due-2.was)) in
    let e : length c.content.result.now ≡ 0 = search rules in
    rw c.placed-p.ensures.0
    (all_there ls (heads_are ls (sym c.heads.ensures ∙ c.in_ok-heads.was)) d l (form_missing _ _ (rw (c.content.ensures, c.placed-p.ensures.0) at e)))

pub returns-else-is_empty : goal.returns-else-is_empty
returns-else-is_empty c =
    let ls = counted (lines c.args.s.now) in
    let d = rw c.placed-p.ensures.0 at (is_due 8 ls c.placed-p.result.established (sym c.due.ensures ∙ c.in_ok-due.was)) in
    let l = rw c.placed-p.ensures.0 at (is_due 12 ls c.placed-p.result.extensions (sym c.due-2.ensures ∙ c.in_ok-due-2.was)) in
    let e : length c.content.result.now ≡ 0 → ⊥ = λ z. search rules in
    rw c.placed-p.ensures.0
    (too_many ls (heads_are ls (sym c.heads.ensures ∙ c.in_ok-heads.was)) d l (form_there _ _ (rw (c.content.ensures, c.placed-p.ensures.0) at e)))
