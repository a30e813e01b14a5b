-- `write_head::kind_code` meets its contract: each arm by what its callees ensure. Assumes nothing.
use native.Mathlib.Omega.{arith}
use mathlib.Core.Path.{refl}
use Rattle.write_head.proofs.kind_code.Goals as goal

pub returns-in-Encodings : goal.returns-in-Encodings
returns-in-Encodings c =
    rw (c.in-Encodings.is, c.digit-in-Encodings.ensures.0, c.digit.ensures.0) (refl, omega (arith, c.digit-in-Encodings.ensures, c.digit.ensures))
