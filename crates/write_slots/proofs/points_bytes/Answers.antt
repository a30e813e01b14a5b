-- `write_slots::points_bytes` meets its contract: each variant by its theorem. Assumes nothing.
use Rattle.write_slots.specs.Points.{writes_none, writes_one, writes_two}
use Rattle.write_slots.proofs.points_bytes.Goals as goal

pub returns-in-None : goal.returns-in-None
returns-in-None c σ = rw (c.in-None.is, c.tagged.ensures.0, c.tagged.ensures.1) (writes_none σ)

pub returns-in-One : goal.returns-in-One
returns-in-One c σ =
    rw (c.in-One.is, c.tagged-in-One.ensures.0, c.tagged-in-One.ensures.1, c.points_rest.ensures.0, c.points_rest.ensures.1)
    (writes_one _ _ _ c.point_bytes.ensures σ)

pub returns-in-Two : goal.returns-in-Two
returns-in-Two c σ =
    rw (c.in-Two.is, c.tagged-in-Two.ensures.0, c.tagged-in-Two.ensures.1, c.points_rest-in-Two.ensures.0, c.points_rest-in-Two.ensures.1)
    (writes_two _ _ _ _ _ _ c.point_bytes-in-Two.ensures c.point_bytes-in-Two-2.ensures σ)
