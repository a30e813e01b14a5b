-- `write_head::total` meets its contract: the invariant: the sum so far and what is left. Assumes nothing.
use native.Mathlib.Omega.{arith}
use lib.ListN.{get_or}
use Rattle.write_head.proofs.Flags.{total_turn, total_end, power}
use Rattle.write_head.proofs.total.Goals as goal

pub overflow_add-sum : goal.overflow_add-sum
overflow_add-sum c =
    let p = power (get_or c.args.t.now c.loop-n.n-index 0) in
    omega (arith, c.requires)

pub loop-n-preserved : goal.loop-n-preserved
loop-n-preserved c =
    let t = c.args.t.now in
    let p = power (get_or t c.loop-n.n-index 0) in
    let turn = total_turn t c.loop-n.n-index (omega arith) in
    omega arith

pub returns : goal.returns
returns c = omega (arith, total_end c.args.t.now c.loop-n.n-index (omega arith))

pub loop-n-init : goal.loop-n-init
loop-n-init c = omega arith
