-- `write_head::input_byte` meets its contract: each variant by the theorem. Assumes nothing.
use Rattle.standard_record.specs.declared.VideoInput.TheVariants.{Analog, Digital, Interface}
use Rattle.write_head.specs.Heads.{writes_input}
use Rattle.write_head.proofs.input_byte.Goals as goal

pub returns-in-Digital : goal.returns-in-Digital
returns-in-Digital c = rw (c.in-Digital.is, c.digit.ensures.0, c.since_4-new.ensures) (writes_input _ (Digital _))

pub returns-in-Interface : goal.returns-in-Interface
returns-in-Interface c =
    rw (
      c.in-Interface.is,
      c.depth_code.ensures.0,
      c.digit-in-Interface-3.ensures.0,
      c.digit-in-Interface-2.ensures.0,
      c.depth_fits.ensures,
      c.digit-in-Interface.ensures.0,
      c.since_4-new.ensures,
    ) (writes_input _ (Interface _ _))

pub returns-in-Analog : goal.returns-in-Analog
returns-in-Analog c =
    rw (
      c.in-Analog.is,
      c.digit-in-Analog-5.ensures.0,
      c.digit-in-Analog-4.ensures.0,
      c.digit-in-Analog-3.ensures.0,
      c.digit-in-Analog-2.ensures.0,
      c.digit-in-Analog.ensures.0,
    ) (writes_input _ (Analog _ _ _))
