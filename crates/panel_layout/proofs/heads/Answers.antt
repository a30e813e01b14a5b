-- `panel_layout::heads` meets its contract. The invariant: the first k lines are due. Assumes nothing.
use Rattle.std.specs.Prelude.{ℕ, zero, suc, ◌≡◌, ◌≤◌, ◌<◌, List, [], ◌∷◌, get_or, Err}
use Rattle.std.proofs.Common.{refl, sym, ap, ◌∙◌, rules, arith}
use borrow.Author.Tests.{le-leb, lt-leb}
use Rattle.text_lines.specs.Lines.{lines, counted}
use Rattle.panel_forms.specs.declared.LineKind.{LineKind}
use Rattle.panel_forms.specs.declared.LineKind.TheVariants.{Product, Version, Input, Size, Gamma, Features, Chroma}
use Rattle.panel_forms.specs.Numbers.{kind_number}
use Rattle.panel_forms.specs.Forms.{is_line}
use Rattle.panel_layout.specs.Layout.{heads}
use Rattle.panel_layout.specs.Along.{is_due, not_due, one_more, stopped}
use Rattle.panel_layout.proofs.heads.Goals as goal

abbrev kinds : List LineKind
kinds = Product ∷ Version ∷ Input ∷ Size ∷ Gamma ∷ Features ∷ Chroma ∷ []

-- each stands at its number
head_number : (k : ℕ) → k < 7 → kind_number (get_or kinds k Product) ≡ k
head_number zero h = refl
head_number (suc zero) h = refl
head_number (suc (suc zero)) h = refl
head_number (suc (suc (suc zero))) h = refl
head_number (suc (suc (suc (suc zero)))) h = refl
head_number (suc (suc (suc (suc (suc zero))))) h = refl
head_number (suc (suc (suc (suc (suc (suc zero)))))) h = refl
head_number (suc (suc (suc (suc (suc (suc (suc k))))))) h = absurd (omega arith)

pub returns-in_err-due : goal.returns-in_err-due
returns-in_err-due c =
    let ls = counted (lines c.args.s.now) in
    let k = c.loop-k.k in
    let told : c.from_residual.result ≡ Err c.in_err-due.field-0.0 = search rules in
    let e = not_due k ls k c.in_err-due.field-0.0 (rw (head_number k c.loop-k-test.true) at (sym c.due.ensures ∙ c.in_err-due.was)) in
    let is = stopped is_line ls 7 k c.loop-k.invariant c.loop-k-test.true e.0 in
    told ∙ rw (is, lt-leb 7 k c.loop-k-test.true) (ap Err e.1)

pub loop-k-preserved : goal.loop-k-preserved
loop-k-preserved c =
    let ls = counted (lines c.args.s.now) in
    let k = c.loop-k.k in
    one_more is_line ls 7 k c.loop-k.invariant c.loop-k-test.true (is_due k ls k (rw (head_number k c.loop-k-test.true) at (sym c.due.ensures ∙ c.in_ok-due.was)))

pub returns : goal.returns
returns c =
    let ls = counted (lines c.args.s.now) in
    let all : 7 ≤ heads 7 ls 0 = omega (arith, c.loop-k.invariant, c.loop-k-test.false) in
    rw (le-leb 7 (heads 7 ls 0) all)
