-- `write_slots::descriptor_bytes` meets its contract: each variant by its theorem. Assumes nothing.
use Rattle.write_slots.specs.Descriptors.{writes_serial, writes_text, writes_name, writes_undefined, writes_maker}
use Rattle.write_slots.specs.Ranges.{writes_range}
use Rattle.write_slots.proofs.descriptor_bytes.Goals as goal

pub returns-in-Serial : goal.returns-in-Serial
returns-in-Serial c =
    rw (c.in-Serial.is, c.tagged.ensures.0, c.tagged.ensures.1) (writes_serial _ _ _ _ _ c.text_rest.ensures)

pub returns-in-Text : goal.returns-in-Text
returns-in-Text c =
    rw (c.in-Text.is, c.tagged-in-Text.ensures.0, c.tagged-in-Text.ensures.1) (writes_text _ _ _ _ _ c.text_rest-in-Text.ensures)

pub returns-in-Range : goal.returns-in-Range
returns-in-Range c = rw (c.in-Range.is, c.range_slot.ensures.0, c.range_slot.ensures.1) (writes_range _ _ _ _)

pub returns-in-Name : goal.returns-in-Name
returns-in-Name c =
    rw (c.in-Name.is, c.tagged-in-Name.ensures.0, c.tagged-in-Name.ensures.1) (writes_name _ _ _ _ _ c.text_rest-in-Name.ensures)

pub returns-in-Undefined : goal.returns-in-Undefined
returns-in-Undefined c =
    rw (
      c.in-Undefined.is,
      c.tagged-in-Undefined.ensures.0,
      c.tagged-in-Undefined.ensures.1,
      c.run_rest.ensures.0,
      c.run_rest.ensures.1,
      c.digit-in-Undefined.ensures.0,
      c.digit.ensures.0,
    ) (writes_undefined _ _ _ _)

pub returns-in-MakerDefined : goal.returns-in-MakerDefined
returns-in-MakerDefined c =
    rw (c.in-MakerDefined.is, c.tagged-in-MakerDefined.ensures.0, c.tagged-in-MakerDefined.ensures.1, c.run_rest-in-MakerDefined.ensures.0, c.run_rest-in-MakerDefined.ensures.1) (writes_maker _ _ _ _)
