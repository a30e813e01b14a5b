-- `picking::score` meets its contract: each answer by its test, which the check finds; the area fits, since both of its sides have 16 bits. Assumes nothing.
use Prim.Native.Nat.{◌≤◌}
use native.Mathlib.Nat.{mul-le-mul}
use native.Mathlib.Omega.{arith}
use Rattle.picking.proofs.score.Goals as goal

pub overflow_mul-result : goal.overflow_mul-result
overflow_mul-result c =
    let t = c.args.t in
    let a : t.across.active.0 ≤ 65535 = omega arith in
    let d : t.down.active.0 ≤ 65535 = omega arith in
    omega (arith, mul-le-mul a d)
