-- `write_slots::six_bytes` meets its contract: twelve bytes of the array, one by one. Assumes nothing.
use mathlib.Core.Path.{ap, ◌∙◌}
use mathlib.Core.List.{[], ◌∷◌}
use native.Mathlib.Omega.{arith}
use Rattle.write_slots.specs.Slot.{tagged}
use Rattle.write_slots.proofs.Runs.{gets_take}
use Rattle.write_slots.proofs.six_bytes.Goals as goal

pub returns : goal.returns
returns c =
    (c.tagged.ensures.0, c.tagged.ensures.1 ∙ ap (tagged 0xfa) (gets_take 12 c.args.pairs.bytes (0x0a ∷ []) (omega arith)))
