-- `write_head::features_byte` meets its contract: its value, by what its callees ensure, and the law of it. Assumes nothing.
use Rattle.write_head.specs.Heads.{writes_features}
use Rattle.write_head.proofs.features_byte.Goals as goal

pub returns : goal.returns
returns c =
    rw (
      c.digit-6.ensures.0,
      c.digit-5.ensures.0,
      c.digit-4.ensures.0,
      c.kind_code.ensures.0,
      c.digit-3.ensures.0,
      c.digit-2.ensures.0,
      c.digit.ensures.0,
      c.kind_fits.ensures,
      c.tells_interface.ensures,
    ) (writes_features _ _)
