-- `write_parts::same_timing` meets its contract: by what `digit` ensures. Assumes nothing.
use Rattle.write_parts.proofs.same_timing.Goals as goal

pub returns : goal.returns
returns c =
    rw (c.digit-4.ensures.0, c.digit-3.ensures.0, c.digit-2.ensures.0, c.digit.ensures.0)
