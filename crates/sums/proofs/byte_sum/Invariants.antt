-- `sums::byte_sum` meets its contract. The invariant: the sum so far, with all that is left, is the sum of the whole. Assumes nothing.
use Rattle.std.proofs.Common.{◌≡◌, ◌+◌, ◌%◌, drop}
use Rattle.sums.specs.Sum.{total, byte_sum}
use Rattle.sums.proofs.byte_sum.Given as goal

abbrev pub invariant-loop-b : goal.invariant-loop-b
invariant-loop-b l = byte_sum l.s ≡ (l.sum + total (drop l.b-index l.s)) % 256
