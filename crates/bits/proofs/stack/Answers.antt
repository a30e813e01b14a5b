-- `bits::stack` meets its contract: `high` has 8 digits, so moved up by at most 8 it fits 16. Assumes nothing.
use Prim.Native.Nat.{ℕ, ◌+◌, ◌*◌, ◌%◌, ◌^◌, ◌<◌}
use mathlib.Core.Path.{ap, ◌∙◌}
use native.Mathlib.Nat.{mod-lt}
use native.Mathlib.Omega.{arith}
use lib.Pow.{pow_pos}
use Rattle.bits.specs.Laws.{last_digits}
use Rattle.bits.proofs.Laws.{or_shl}
use Rattle.bits.proofs.stack.Goals as goal

pub returns : goal.returns
returns c =
    let w = c.args.width % 8 in
    let low : c.digits-under.result < 2 ^ w = rw c.digits-under.ensures (mod-lt _ (pow_pos w)) in
    or_shl c.digits-under.result c.args.high 8 w 16 low (omega arith) (omega arith)
    ∙ ap (λ (x : ℕ). x + 2 ^ w * c.args.high) (c.digits-under.ensures ∙ last_digits c.args.low w)
