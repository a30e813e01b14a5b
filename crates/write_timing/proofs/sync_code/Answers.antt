-- `write_timing::sync_code` meets its contract: each variant by what its callees ensure. Assumes nothing.
use native.Mathlib.Omega.{arith}
use Rattle.write_timing.proofs.sync_code.Goals as goal

pub returns-in-AnalogComposite : goal.returns-in-AnalogComposite
returns-in-AnalogComposite c =
    (rw (c.in-AnalogComposite.is, c.line_code.ensures.0, c.digit.ensures.0), omega arith)

pub returns-in-BipolarAnalogComposite : goal.returns-in-BipolarAnalogComposite
returns-in-BipolarAnalogComposite c =
    (rw (c.in-BipolarAnalogComposite.is, c.line_code-in-BipolarAnalogComposite.ensures.0, c.digit-in-BipolarAnalogComposite.ensures.0), omega arith)

pub returns-in-DigitalComposite : goal.returns-in-DigitalComposite
returns-in-DigitalComposite c =
    (rw (c.in-DigitalComposite.is, c.polarity_code.ensures.0, c.digit-in-DigitalComposite.ensures.0), omega arith)

pub returns-in-DigitalSeparate : goal.returns-in-DigitalSeparate
returns-in-DigitalSeparate c =
    (rw (c.in-DigitalSeparate.is, c.polarity_code-in-DigitalSeparate-2.ensures.0, c.polarity_code-in-DigitalSeparate.ensures.0), omega arith)
