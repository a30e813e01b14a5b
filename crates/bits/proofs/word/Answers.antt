-- `bits::word` meets its contract. Assumes nothing.
use native.Mathlib.Omega.{arith}
use Rattle.bits.proofs.Laws.{or_shl}
use Rattle.bits.proofs.word.Goals as goal

pub returns : goal.returns
returns c = or_shl c.args.low c.args.high 8 8 16 (omega arith) (omega arith) (omega arith)
