-- `standard_writing::lay_slot` meets its contract, by what `lay` ensures. Assumes nothing.
use Rattle.std.proofs.Common.{◌≡◌, length, arith}
use Rattle.standard_writing.proofs.lay_slot.Goals as goal

pub returns : goal.returns
returns c =
    let size : length c.args.part.now ≡ 18 = omega arith in
    (size, rw size at c.lay.ensures)
