-- `write_slots::range_slot` meets its contract: by what its callees ensure. Assumes nothing.
use mathlib.Core.Path.{ap, ◌∙◌}
use mathlib.Core.List.{◌++◌}
use lib.ListN.{length}
use Rattle.write_slots.specs.Words.{secondary}
use Rattle.write_slots.specs.Slot.{headed}
use Rattle.write_slots.specs.Ranges.{secondary_size}
use Rattle.write_slots.proofs.Runs.{gets_whole}
use Rattle.write_slots.proofs.range_slot.Goals as goal

pub returns : goal.returns
returns c =
    let a = c.args in
    let m = c.limits_bytes-limits.ensures in
    let bytes = c.secondary_bytes-second.ensures.1 in
    let five = gets_whole 5 c.limits_bytes-limits.result.bytes (ap length m.bytes) ∙ m.bytes in
    let eight = gets_whole 8 c.secondary_bytes-second.result.bytes (ap length bytes ∙ secondary_size (secondary a.lent.now a.s)) ∙ bytes in (
      c.headed.ensures.0 ∙ rw (c.digit-2.ensures.0, c.digit.ensures.0, c.secondary_bytes-second.ensures.0, m.fits),
      c.headed.ensures.1 ∙ (λ i. headed 0xfd (m.offsets i) (five i ++ eight i)),
    )
