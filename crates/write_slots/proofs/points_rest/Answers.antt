-- `write_slots::points_rest` meets its contract: by what `digit` ensures. Assumes nothing.
use mathlib.Core.Path.{refl}
use Rattle.write_slots.proofs.points_rest.Goals as goal

pub returns : goal.returns
returns c = (rw (c.digit-2.ensures.0, c.digit.ensures.0), refl)
