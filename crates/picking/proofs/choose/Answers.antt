-- `picking::choose` meets its contract. The invariant: of the timings from k on, `most` is the greatest score and `at` the first index of it.
-- Assumes nothing.
use mathlib.Core.Path.{◌≡◌}
use native.Mathlib.Omega.{arith}
use lib.ListN.{length}
use Rattle.picking.specs.Score.{score_of}
use Rattle.picking.proofs.Laws.{from_the_end, taken, passed, none_chosen, one_chosen}
use Rattle.picking.proofs.choose.Goals as goal

pub loop-k-init : goal.loop-k-init
loop-k-init c = from_the_end (score_of _) (λ h. h.timing) _ c.min-end.result

pub returns-then-most-eq0 : goal.returns-then-most-eq0
returns-then-most-eq0 c =
    let at-0 : c.loop-k.k ≡ 0 = omega arith in
    rw (← c.min-end.ensures) (none_chosen _ _ _ _ (rw at-0 at c.loop-k.invariant) c.if-most-eq0.true)

pub returns-else-most-eq0 : goal.returns-else-most-eq0
returns-else-most-eq0 c =
    let at-0 : c.loop-k.k ≡ 0 = omega arith in
    rw (← c.min-end.ensures) (one_chosen _ _ _ _ (rw at-0 at c.loop-k.invariant) c.if-most-eq0.false)

pub loop-k-preserved-then-its-most : goal.loop-k-preserved-then-its-most
loop-k-preserved-then-its-most c =
    let size : length c.args.list.items ≡ 4 = omega arith in
    taken (score_of _) (λ h. h.timing) _ c.min-end.result (omega (arith, size)) c.loop-k.k _ _ (omega arith) (omega arith) c.loop-k.invariant _ _ c.score-its.ensures c.if-its-most.true

pub loop-k-preserved : goal.loop-k-preserved
loop-k-preserved c =
    let size : length c.args.list.items ≡ 4 = omega arith in
    passed (score_of _) (λ h. h.timing) _ c.min-end.result (omega (arith, size)) c.loop-k.k _ _ (omega arith) (omega arith) c.loop-k.invariant _ _ c.score-its.ensures c.if-its-most.false
