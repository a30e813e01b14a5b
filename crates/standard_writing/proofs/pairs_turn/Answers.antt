-- `standard_writing::pairs_turn` meets its contract, by what its callees ensure. Assumes nothing.
use Rattle.std.proofs.Common.{refl}
use Rattle.standard_writing.proofs.pairs_turn.Goals as goal

pub returns : goal.returns
returns c = rw c.turn_of.ensures (c.six_bytes.ensures.0, c.six_bytes.ensures.1, refl)
