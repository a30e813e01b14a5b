-- `bits::byte_at` meets its contract: past the end there is no byte. Assumes nothing.
use mathlib.Core.Path.{sym}
use lib.ListN.{get_or-eq_default}
use Rattle.bits.proofs.byte_at.Goals as goal

pub returns-else-k-s : goal.returns-else-k-s
returns-else-k-s c = sym (get_or-eq_default c.args.s.now 0 c.if-k-s.false)
