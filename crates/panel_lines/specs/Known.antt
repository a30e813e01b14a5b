-- Worked lines: antt computes each definition to the text.
use Rattle.std.specs.Prelude.{[], ◌∷◌, ◌≡◌, refl, Err}
use Rattle.page.specs.Words.{text, decimal_in, field, field16, field8, hex_digit, hex_of2, flat, each}
use Rattle.standard_record.specs.Filler.{blank}
use Rattle.standard_record.specs.declared.Descriptor.TheVariants.{Serial, Text, Name, MakerDefined}
use Rattle.shared_lines.specs.Lines.{raw, raw_fields, refuse_line}
use Rattle.standard_slot_lines.specs.Lines.{descriptor_fields}
use Rattle.panel_lines.specs.Lines.{text_byte, quoted, quoted_fields, entry_fields, entry_line, judged_text, panel_text}

-- the bytes a " b \ c and 80
escaped : entry_line (97 ∷ 34 ∷ 98 ∷ 92 ∷ 99 ∷ 128 ∷ 10 ∷ []) (record { descriptor = Name (record { start = 0; len = 6 }); slot = 3 })
    ≡ text "name \"a\\x22b\\x5cc\\x80\" 3\n"
unfolding entry_line entry_fields quoted_fields quoted text_byte flat each hex_of2 hex_digit field16 decimal_in
escaped = refl

-- the ends of what is plain, and the bytes beside them
edges : quoted (0x1f ∷ 0x20 ∷ 0x7e ∷ 0x7f ∷ []) ≡ text "\"\\x1f ~\\x7f\""
unfolding quoted text_byte flat each hex_of2 hex_digit
edges = refl

empty : entry_line [] (record { descriptor = Serial (record { start = 0; len = 0 }); slot = 1 }) ≡ text "serial \"\" 1\n"
unfolding entry_line entry_fields quoted_fields quoted flat each field16 decimal_in
empty = refl

thirteen : entry_line (text "..DELL U2412M!!..") (record { descriptor = Text (record { start = 2; len = 13 }); slot = 4 })
    ≡ text "text \"DELL U2412M!!\" 4\n"
unfolding entry_line entry_fields quoted_fields quoted text_byte flat each field16 decimal_in
thirteen = refl

-- as in the listing
maker : entry_line (254 ∷ 34 ∷ []) (record { descriptor = MakerDefined 15 (record { start = 0; len = 13 }); slot = 2 }) ≡ text "maker 15 fe22 2\n"
unfolding entry_line entry_fields descriptor_fields raw_fields raw flat each hex_of2 hex_digit field8 field16 decimal_in
maker = refl

refused : panel_text [] (record { edid = blank; end = Err (record { number = 7; at = 0 }) }) ≡ text "refuse 7 0\n"
unfolding panel_text judged_text refuse_line flat field field8 decimal_in
refused = refl
