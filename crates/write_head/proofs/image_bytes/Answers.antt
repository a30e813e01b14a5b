-- `write_head::image_bytes` meets its contract: each variant by the theorem. Assumes nothing.
use Rattle.standard_record.specs.declared.ImageSize.TheVariants as Image
use Rattle.write_head.specs.Heads.{writes_image}
use Rattle.write_head.proofs.image_bytes.Goals as goal

pub returns-in-None : goal.returns-in-None
returns-in-None c = rw c.in-None.is (writes_image _ Image.None)

pub returns-in-Some : goal.returns-in-Some
returns-in-Some c =
    rw (c.in-Some.is, c.digit-in-Some-2.ensures.0, c.digit-in-Some.ensures.0, c.digit.ensures.0)
    (writes_image _ (Image.Some _))

pub returns-in-Ratio : goal.returns-in-Ratio
returns-in-Ratio c = rw (c.in-Ratio.is, c.ratio_bytes.ensures.0, c.ratio_bytes.ensures.1) (writes_image _ (Image.Ratio _))
