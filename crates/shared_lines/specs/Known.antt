-- Worked lines: antt computes each definition to the text.
use Rattle.std.specs.Prelude.{true, false, [], ◌∷◌, ◌≡◌, refl}
use Rattle.page.specs.Words.{text, decimal_in, field, field8, flag, hex_digit, hex_of2, flat, each}
use Rattle.shared_lines.specs.Lines.{version_line, digital_line, dpms_line, established_line, text_fields, text_line, raw, raw_fields, raw_line, refuse_line}

version : version_line 1 3 ≡ text "version 1 3\n"
unfolding version_line flat field8 decimal_in
version = refl

digital : digital_line true ≡ text "digital 1\n"
unfolding digital_line flat flag
digital = refl

dpms : dpms_line false false false 1 false true false ≡ text "dpms 0 0 0 1 0 1 0\n"
unfolding dpms_line flat flag field8 decimal_in
dpms = refl

established : established_line (0 ∷ 11 ∷ 16 ∷ 0 ∷ []) 3 ≡ text "established 0 11 16\n"
unfolding established_line flat each field8 decimal_in
established = refl

no_flag : established_line (0 ∷ []) 0 ≡ text "established\n"
unfolding established_line flat each
no_flag = refl

name : text_line (text "name") (record { start = 77; len = 5 }) ≡ text "name 77 5\n"
unfolding text_line text_fields flat field decimal_in
name = refl

maker : raw_line (text "maker") (0 ∷ 0 ∷ 254 ∷ 255 ∷ []) 15 (record { start = 2; len = 13 }) ≡ text "maker 15 feff\n"
unfolding raw_line raw_fields raw flat each field8 decimal_in hex_of2 hex_digit
maker = refl

refused : refuse_line (record { number = 3; at = 57 }) ≡ text "refuse 3 57\n"
unfolding refuse_line flat field field8 decimal_in
refused = refl
