-- `panel_forms::any_of` meets its contract. The invariant: the line has a form if it has one of those left. Assumes nothing.
use Rattle.std.proofs.Common.{length, ◌≡◌, sym, ◌∙◌, arith, rules}
use Rattle.text_lines.specs.Lines.{lines, counted}
use Rattle.panel_forms.specs.Laws.{any_over, form_missing, forms_few}
use Rattle.panel_forms.proofs.any_of.Goals as goal

pub returns : goal.returns
returns c =
    let s = c.args.forms.now in
    sym (c.loop-k.invariant ∙ any_over (counted (lines s)) _ c.loop-k.k (omega (arith, forms_few s)))

pub returns-then-is_empty : goal.returns-then-is_empty
returns-then-is_empty c =
    let e : length c.content-form.result.now ≡ 0 = search rules in
    sym (c.loop-k.invariant ∙ any_over (counted (lines c.args.forms.now)) _ c.loop-k.k (form_missing _ _ (rw c.content-form.ensures at e)))
