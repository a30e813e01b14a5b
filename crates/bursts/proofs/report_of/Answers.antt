-- `bursts::report_of` meets its contract, by its two tests. Assumes nothing.
use Rattle.std.proofs.Common.{ℕ, sym, ap, ◌∙◌, Some, Ok, Err}
use Rattle.bursts.specs.Bursts.{told}
use Rattle.bursts.specs.Laws.{is_amid, is_accepted_lem, is_refused}
use Rattle.bursts.proofs.report_of.Goals as goal

pub returns-then-sort-lt6 : goal.returns-then-sort-lt6
returns-then-sort-lt6 c = let a = c.args in sym (ap told (is_amid a.sort a.place a.number c.if-sort-lt6.true))

pub returns-then-sort-eq6 : goal.returns-then-sort-eq6
returns-then-sort-eq6 c =
    let a = c.args in ap (λ (n : ℕ). Some (Ok n)) c.from-at.ensures ∙ sym (ap told (is_accepted_lem a.sort a.place a.number c.if-sort-eq6.true))

pub returns : goal.returns
returns c =
    let a = c.args in
    ap (λ (n : ℕ). Some (Err (record { number = a.number; at = n }))) c.from-at.ensures
    ∙ sym (ap told (is_refused a.sort a.place a.number c.if-sort-lt6.false c.if-sort-eq6.false))
