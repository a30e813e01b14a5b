-- `write_parts::text_bytes` meets its contract: what its callees ensure, put into the theorem. Assumes nothing.
use Rattle.write_parts.specs.Texts.{writes_text}
use Rattle.write_parts.proofs.Tabs.{tabbed}
use Rattle.write_parts.proofs.text_bytes.Goals as goal

pub returns : goal.returns
returns c =
    let text = c.args.t.now in
    rw (
      c.text_byte-13.ensures,
      c.text_byte-12.ensures,
      c.text_byte-11.ensures,
      c.text_byte-10.ensures,
      c.text_byte-9.ensures,
      c.text_byte-8.ensures,
      c.text_byte-7.ensures,
      c.text_byte-6.ensures,
      c.text_byte-5.ensures,
      c.text_byte-4.ensures,
      c.text_byte-3.ensures,
      c.text_byte-2.ensures,
      c.text_byte.ensures,
      c.digit-2.ensures.0,
      c.text_length.ensures,
      c.digit.ensures.0,
      tabbed text,
    ) (writes_text text)
