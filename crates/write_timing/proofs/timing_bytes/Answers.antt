-- `write_timing::timing_bytes` meets its contract: what its callees ensure, put into the theorem. Assumes nothing.
use Rattle.write_timing.specs.Timing.{timing_bytes}
use Rattle.write_timing.specs.Whole.{writes_timing}
use Rattle.write_timing.proofs.timing_bytes.Goals as goal

pub returns : goal.returns
unfolding timing_bytes
returns c =
    rw (
      c.last_of-last.ensures,
      c.porch_code-porches.ensures,
      c.down_blank-down.ensures,
      c.across_blank-across.ensures,
      c.fits_timing-fits.ensures,
    ) (writes_timing c.args.d)
