-- `write_head::shown` meets its contract, by what `part` ensures. Assumes nothing.
use native.Mathlib.Omega.{arith}
use lib.ListN.{length-take}
use Rattle.write_head.proofs.shown.Goals as goal

pub returns : goal.returns
returns c = (c.part.ensures, rw (c.part.ensures, length-take) (omega (arith, c.part-arg-1.given)))
