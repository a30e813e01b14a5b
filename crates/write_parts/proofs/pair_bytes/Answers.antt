-- `write_parts::pair_bytes` meets its contract: what its callees ensure, put into the theorem. Assumes nothing.
use Rattle.write_parts.specs.Pairs.{writes_pair}
use Rattle.write_parts.proofs.pair_bytes.Goals as goal

pub returns : goal.returns
returns c =
    rw (c.same_pair-fits.ensures, c.pair_of.ensures, c.ratio_code.ensures.0) (writes_pair c.args.structure c.args.v)
