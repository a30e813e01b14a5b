-- `write_head::maker_bytes` meets its contract: what its callees ensure, put into the theorem. Assumes nothing.
use Rattle.write_head.specs.Heads.{writes_maker}
use Rattle.write_head.proofs.maker_bytes.Goals as goal

pub returns : goal.returns
returns c =
    rw (c.digit-3.ensures.0, c.digit-2.ensures.0, c.digit.ensures.0, c.maker_of-again.ensures)
    (writes_maker c.args.m)
