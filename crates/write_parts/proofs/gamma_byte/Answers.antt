-- `write_parts::gamma_byte` meets its contract: each variant by the theorem. Assumes nothing.
use Rattle.std.specs.Prelude.{None, Some}
use Rattle.write_parts.specs.Points.{writes_gamma}
use Rattle.write_parts.proofs.gamma_byte.Goals as goal

pub returns-in-None : goal.returns-in-None
returns-in-None c = rw c.in-None.is (writes_gamma None)

pub returns-in-Some : goal.returns-in-Some
returns-in-Some c =
    rw (c.in-Some.is, c.digit-in-Some.ensures.0, c.digit.ensures.0) (writes_gamma (Some _))
