-- `write_slots::headed` meets its contract: an array of 13 bytes is those at its places. Assumes nothing.
use mathlib.Core.Path.{◌≡◌, refl, ap}
use native.Mathlib.Omega.{arith}
use lib.ListN.{length}
use Rattle.write_slots.specs.Slot.{headed}
use Rattle.write_slots.proofs.Runs.{gets_whole}
use Rattle.write_slots.proofs.headed.Goals as goal

pub returns : goal.returns
returns c =
    let size : length c.args.rest.bytes ≡ 13 = omega arith in
    (refl, ap (headed c.args.tag c.args.b4) (gets_whole 13 c.args.rest.bytes size))
