-- A number without its remainder is a product.
use Rattle.std.proofs.Common.{◌/◌, arith}
use Rattle.std.proofs.Math.Nat.{mod-eq-sub-div-mul, div-mul-le_self}
use Rattle.register_file.proofs.end_of.Goals as goal

pub returns-then-came-clause-records : goal.returns-then-came-clause-records
returns-then-came-clause-records c h =
    let n = c.args.came.count in
    let m = c.args.from in
    (n / m, omega (arith, mod-eq-sub-div-mul n m, div-mul-le_self n m))
