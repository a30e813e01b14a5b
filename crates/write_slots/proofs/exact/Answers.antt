-- `write_slots::exact` meets its contract: by what its callees ensure. Assumes nothing.
use Rattle.write_slots.proofs.exact.Goals as goal

pub returns : goal.returns
returns c = rw (c.digit-2.ensures.0, c.within.ensures, c.digit.ensures.0)
