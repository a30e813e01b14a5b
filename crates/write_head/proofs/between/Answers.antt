-- `write_head::between` meets its contract: by what `digit` ensures. Assumes nothing.
use Rattle.write_head.proofs.between.Goals as goal

pub returns : goal.returns
returns c = rw (c.digit-2.ensures.0, c.digit.ensures.0)
