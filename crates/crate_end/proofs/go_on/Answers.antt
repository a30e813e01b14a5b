-- `crate_end::go_on` meets its contract. The invariant: going on from here comes as far as from the start, and the piece that the code
-- names at the end is the one that it stands at. Assumes nothing.
use Rattle.std.proofs.Common.{ℕ, ◌≡◌, refl, sym, ◌∙◌, arith}
use Rattle.steps.specs.Steps.{Outcome}
use Rattle.crate_end.specs.Ends.{Went}
use Rattle.crate_end.specs.Onward.{turn, no_turn}
use Rattle.crate_end.proofs.go_on.Goals as goal

pub loop-i-init : goal.loop-i-init
loop-i-init c = (refl, refl)

pub returns-in-Err : goal.returns-in-Err
returns-in-Err c = sym (turn _ c.loop-i-test.true c.in-Err.ensures) ∙ c.loop-i.invariant.0

pub loop-i-preserved : goal.loop-i-preserved
loop-i-preserved c =
    (sym (turn _ c.loop-i-test.true c.in_default.ensures) ∙ c.loop-i.invariant.0, omega (arith, c.loop-i.invariant.1, c.loop-i-test.true))

pub returns : goal.returns
returns c =
    let last : c.max.result ≡ c.loop-i.i = omega (arith, c.max.ensures, c.loop-i.invariant.1, c.loop-i-test.false) in
    let came : ℕ → Outcome Unit → Went = λ i o. record { piece = i; at = c.loop-i.c.at; end = o } in
    (λ j. came (last j) (c.last_end.ensures j)) ∙ sym (no_turn c.loop-i.i _ c.loop-i.c.at c.loop-i-test.false) ∙ c.loop-i.invariant.0
