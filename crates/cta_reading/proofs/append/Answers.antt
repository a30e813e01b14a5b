-- `cta_reading::append` meets its contract. The invariant: with i bytes more, the first i bytes of the run are pushed. Assumes nothing.
use Prim.Native.Nat.{ℕ, ◌+◌}
use mathlib.Core.Path.{◌≡◌, refl, sym, ap, ◌∙◌}
use mathlib.Core.List.{[], ◌∷◌, ◌++◌}
use native.Mathlib.Numerals.{add-one}
use native.Mathlib.Nat.{add-zero}
use native.Mathlib.Omega.{arith}
use lib.ListN.{take, get_or}
use lib.Seq.{take-suc}
use Rattle.fixed.specs.Fixed.{push, pushed_append}
use Rattle.fixed.specs.declared.Fixed.{Fixed}
use Rattle.cta_reading.proofs.Laws.{takes, rest_dropped}
use Rattle.cta_reading.proofs.append.Goals as goal

pub loop-i-init : goal.loop-i-init
loop-i-init c = (refl, rw add-zero refl)

pub loop-i-preserved : goal.loop-i-preserved
loop-i-preserved c =
    let run = c.args.run.now in
    let i : ℕ = c.loop-i.i in
    let from : ℕ = c.args.video.now.len in
    let next : take (i + 1) run ≡ take i run ++ get_or run i 0 ∷ [] = rw add-one (take-suc run i 0 (omega arith)) in
    let so_far : Fixed ℕ 119 = record { items = c.loop-i.video.items; len = from + i } in
    let more : from + (i + 1) ≡ from + i + 1 = omega arith in (
      c.loop-i.invariant.0,
      rw (next, more)
          (sym (takes 119 so_far (get_or run i 0) (omega arith))
          ∙ ap (λ l. push 119 l (get_or run i 0)) c.loop-i.invariant.1
          ∙ pushed_append (push 119) c.args.video.now (take i run) (get_or run i 0 ∷ [])),
    )

pub returns : goal.returns
returns c =
    let run = c.args.run.now in
    let all : c.loop-i.i ≡ c.min-many.result = omega arith in
    rest_dropped 119 _ _ _ run (rw c.saturating_sub.ensures at c.min-many.ensures) refl (rw all at c.loop-i.invariant.1)
