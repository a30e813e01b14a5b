-- `write_head::depth_fits` meets its contract: by what its callees ensure. Assumes nothing.
use Rattle.write_head.proofs.depth_fits.Goals as goal

pub returns-in-Bits : goal.returns-in-Bits
returns-in-Bits c =
    rw (c.in-Bits.is, c.digit-in-Bits.ensures.0, c.digit.ensures.0, c.between.ensures)
