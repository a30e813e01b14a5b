-- `standard_writing::timing_turn` meets its contract, by what its callees ensure. Assumes nothing.
use Rattle.std.proofs.Common.{arith}
use Rattle.write_block.specs.Leaves.{slot_timing}
use Rattle.standard_writing.proofs.timing_turn.Goals as goal

pub returns : goal.returns
returns c =
    rw c.turn_of.ensures (λ σ lent. (
      slot_timing σ lent _ _ _ c.timing_bytes.ensures,
      record { timed = omega arith; listed = omega arith; pointed = omega arith; entered = omega arith },
    ))
