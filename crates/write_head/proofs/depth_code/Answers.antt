-- `write_head::depth_code` meets its contract: each arm says which depth it is. Assumes nothing.
use native.Mathlib.Omega.{arith}
use mathlib.Core.Path.{refl}
use Rattle.write_head.proofs.depth_code.Goals as goal

pub returns-in-Bits : goal.returns-in-Bits
returns-in-Bits c = rw c.in-Bits.is (refl, omega arith)
