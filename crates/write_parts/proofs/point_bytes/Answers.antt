-- `write_parts::point_bytes` meets its contract: what its callees ensure, put into the theorem. Assumes nothing.
use Rattle.write_parts.specs.Point.{point_bytes}
use Rattle.write_parts.specs.Points.{writes_point}
use Rattle.write_parts.proofs.point_bytes.Goals as goal

pub returns : goal.returns
unfolding point_bytes
returns c =
    rw (
      c.digit-4.ensures.0,
      c.digit-3.ensures.0,
      c.digit-2.ensures.0,
      c.digit.ensures.0,
      c.gamma_byte-last.ensures.made,
    ) (writes_point c.args.p c.gamma_byte-last.result.fits c.gamma_byte-last.result.byte c.gamma_byte-last.ensures)
