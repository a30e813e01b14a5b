-- `bursts::note` meets its contract, by the case that the end is. Assumes nothing.
use Rattle.std.proofs.Common.{◌≡◌, ℕ, Result, refl, sym, ap, ◌∙◌, eqb, eq-eqb, ne_eqb, arith}
use Rattle.steps.specs.Leaves.{ended}
use Rattle.steps.specs.Laws.{picked, picked_not}
use Rattle.steps.specs.declared.Refusal.{Refusal}
use Rattle.bursts.specs.Bursts.{amid, end_or}
use Rattle.bursts.specs.Laws.{is_amid, is_accepted_lem, is_refused}
use Rattle.bursts.proofs.note.Goals as goal

-- the end is f, as a match shows
settles : {e f : Result ℕ Refusal} (i at : ℕ) → e ≡ f → end_or (ended tt f) (amid i at) ≡ end_or (ended tt e) (amid i at)
settles i at q = ap (λ x. end_or (ended tt x) (amid i at)) (sym q)

pub returns-in-Ok : goal.returns-in-Ok
returns-in-Ok c =
    let put = c.put.ensures in
    let came = c.args.came in
    (put.0, put.1 ∙ is_accepted_lem 6 c.in-Ok.n 0 refl ∙ settles came.piece came.at c.in-Ok.is)

pub returns-then-f-eq1 : goal.returns-then-f-eq1
returns-then-f-eq1 c =
    let put = c.put-then-f-eq1.ensures in
    let came = c.args.came in
    let small = c.requires.piece in (
      put.0,
      put.1 ∙ is_amid came.piece came.at 0 (omega arith)
          ∙ sym (picked (eqb c.in-Err.f.number 1) _ _ (eq-eqb _ _ c.if-f-eq1.true)) ∙ settles came.piece came.at c.in-Err.is,
    )

pub returns-else-f-eq1 : goal.returns-else-f-eq1
returns-else-f-eq1 c =
    let put = c.put-else-f-eq1.ensures in
    let f = c.in-Err.f in
    let came = c.args.came in (
      put.0,
      put.1 ∙ is_refused 7 f.at f.number (omega arith) (λ q. absurd (omega arith))
          ∙ sym (picked_not (eqb f.number 1) _ _ (ne_eqb _ _ c.if-f-eq1.false)) ∙ settles came.piece came.at c.in-Err.is,
    )
