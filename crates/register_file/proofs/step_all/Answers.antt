-- `register_file::step_all` meets its contract. The invariant: what is written, and behind it what the records that are left come to, is what all of them come to. Assumes nothing.
use Prim.Native.Nat.{◌+◌, ◌-◌}
use mathlib.Core.Path.{◌≡◌, sym, ◌∙◌}
use native.Mathlib.Omega.{arith}
use mathlib.Core.Logic.{inl, inr}
use borrow.Author.Rules.{rules}
use lib.ListN.{take}
use Rattle.register_file.specs.File.{converted}
use Rattle.register_file.specs.Laws.{at_start}
use Rattle.register_file.proofs.Laws.{ends, ok_tells, err_tells, turn_stops, turn_goes_on}
use Rattle.register.specs.Refusals.{told}
use Rattle.register_file.proofs.step_all.Goals as goal

pub loop-i-init : goal.loop-i-init
loop-i-init c = (search rules, search rules, search rules, search rules, at_start (converted _ 248 _))

pub returns-then-at-source : goal.returns-then-at-source
returns-then-at-source c =
    let a = c.args in
    (search rules, search rules, sym (ends a.way a.source.now (take c.loop-i.end c.loop-i.output) c.loop-i.at c.loop-i.i (248 - c.loop-i.i) (inr (search rules))) ∙ c.loop-i.invariant.4)

pub returns : goal.returns
returns c =
    let a = c.args in
    let full : c.loop-i.i ≡ 248 = omega arith in
    (search rules, search rules, rw full at (sym (ends a.way a.source.now (take c.loop-i.end c.loop-i.output) c.loop-i.at c.loop-i.i (248 - c.loop-i.i) (inl (omega arith))) ∙ c.loop-i.invariant.4))

pub returns-then-is_err : goal.returns-then-is_err
returns-then-is_err c =
    let a = c.args in (
      search rules,
      search rules,
      turn_stops a.way a.source.now c.loop-i.output c.step-outcome.new.output c.loop-i.at c.min-next.result c.loop-i.end c.to-to.result (c.loop-i.end + c.to-to.result - c.loop-i.end) c.loop-i.i (told c.step-outcome.result) _
          c.to-to.ensures.0 (search rules) (search rules) (search rules) (rw c.from-from.ensures.0 at c.min-next.ensures) (search rules) c.step-outcome.ensures c.loop-i.invariant.4
          (err_tells c.step-outcome.result (sym c.is_err.ensures.value ∙ c.if-is_err.true)),
    )

pub loop-i-preserved : goal.loop-i-preserved
loop-i-preserved c =
    let a = c.args in (
      search rules,
      search rules,
      search rules,
      search rules,
      turn_goes_on a.way a.source.now c.loop-i.output c.step-outcome.new.output c.loop-i.at c.min-next.result c.loop-i.end c.to-to.result (c.loop-i.end + c.to-to.result - c.loop-i.end) c.loop-i.i (told c.step-outcome.result) _
          c.to-to.ensures.0 (search rules) (search rules) (search rules) (rw c.from-from.ensures.0 at c.min-next.ensures) (search rules) c.step-outcome.ensures c.loop-i.invariant.4
          (ok_tells c.step-outcome.result (sym c.is_err.ensures.value ∙ c.if-is_err.false)) (search rules),
    )
