-- `write_head::ratio_bytes` meets its contract: each arm by its test. Assumes nothing.
use mathlib.Core.Path.{refl}
use borrow.Author.Tests.{eq-eqb, ne_eqb}
use Rattle.write_head.proofs.ratio_bytes.Goals as goal

pub returns-then-r-eq100 : goal.returns-then-r-eq100
returns-then-r-eq100 c =
    rw (c.digit-2.ensures.0, c.ratio_fits.ensures, c.digit.ensures.0, c.since_4.ensures, eq-eqb _ _ c.if-r-eq100.true) (refl, refl)

pub returns-else-r-eq100 : goal.returns-else-r-eq100
returns-else-r-eq100 c =
    rw (c.digit-2.ensures.0, c.ratio_fits.ensures, c.digit.ensures.0, c.since_4.ensures, ne_eqb _ _ c.if-r-eq100.false) (refl, refl)
