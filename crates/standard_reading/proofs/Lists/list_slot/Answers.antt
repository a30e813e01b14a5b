-- `standard_reading::Lists::list_slot` meets its contract: a slot's second point has room behind its first. Assumes nothing.
use Rattle.std.proofs.Common.{arith}
use Rattle.standard_reading.proofs.Laws.{one_longer}
use Rattle.standard_reading.proofs.Lists.list_slot.Goals as goal

pub put-requires-in-Points-Two-2 : goal.put-requires-in-Points-Two-2
put-requires-in-Points-Two-2 c =
    let longer = one_longer 6 c.args.self.now.points _ c.put-in-Points-Two.ensures (omega (arith, c.requires.1.points)) in
    (omega arith, omega (arith, longer, c.requires.1.points))
