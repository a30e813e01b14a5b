-- `bits::cut` meets its contract. Assumes nothing.
use Rattle.std.proofs.Common.{arith}
use Rattle.bits.proofs.Laws.{shr_ones, digits_at_most}
use Rattle.bits.proofs.cut.Goals as goal

pub returns : goal.returns
returns c =
    let d = shr_ones c.args.v c.args.shift c.args.width 16 (omega (arith, c.requires)) in
    (d, rw d (digits_at_most c.args.v c.args.shift c.args.width))
