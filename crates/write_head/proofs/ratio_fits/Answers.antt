-- `write_head::ratio_fits` meets its contract: each arm by its test. Assumes nothing.
use borrow.Author.Tests.{eq-eqb, ne_eqb}
use Rattle.write_head.proofs.ratio_fits.Goals as goal

pub returns-then-r-eq100 : goal.returns-then-r-eq100
returns-then-r-eq100 c = rw (eq-eqb _ _ c.if-r-eq100.true) c.between.ensures

pub returns-else-r-eq100 : goal.returns-else-r-eq100
returns-else-r-eq100 c =
    rw (ne_eqb _ _ c.if-r-eq100.false, c.digit-else-r-eq100.ensures.0, c.between-else-r-eq100.ensures, c.digit.ensures.0)
