-- The longest text is below a page, so what is written of a page is the text, whole.
use Rattle.std.specs.Prelude.{ℕ, ◌+◌, ◌≤◌, List, [], ◌∷◌, ◌≡◌, length, take, drop, Ok, Err}
use Rattle.std.proofs.Common.{arith, length-append}
use Rattle.page.specs.declared.Page.{Page}
use Rattle.page.specs.Page.{◌▷◌}
use Rattle.page.specs.Words.{text, field16, decimal_in, flat, each}
use Rattle.page.specs.Short.{either, field16_length, byte_length, first_length}
use Rattle.page.specs.Meaning.{whole, only}
use Rattle.steps.specs.declared.Span.{Span}
use Rattle.standard_record.specs.declared.Descriptor.{Descriptor}
use Rattle.standard_record.specs.declared.Descriptor.TheVariants.{Serial, Text, Range, Name, Undefined, MakerDefined}
use Rattle.standard_record.specs.declared.Held.{Held}
use Rattle.standard_record.specs.Lists.{Descriptors}
use Rattle.standard_record.specs.declared.StandardRecord.{StandardRecord}
use Rattle.standard_record.specs.Verdict.{Verdict}
use Rattle.standard_record.specs.declared.StandardReading.{StandardReading}
use Rattle.shared_lines.specs.Short.{extensions_length, refuse_length}
use Rattle.standard_slot_lines.specs.Lines.{descriptor_fields, held_line, descriptor_lines}
use Rattle.standard_slot_lines.specs.Short.{descriptor_lengths}
use Rattle.standard_lines.specs.Short.{main_length}
use Rattle.text_words.specs.Words.{is_plain}
use Rattle.panel_lines.specs.Lines.{text_byte, quoted, quoted_fields, entry_fields, entry_line, entry_lines, panel_lines, judged_text, panel_text}

text_byte_length : (b : ℕ) → length (text_byte b) ≤ 4
unfolding text_byte flat
text_byte_length b = either (is_plain b) _ _ 4 (omega arith) (simp length-append (omega (arith, byte_length b)))

quoted_fields_length : (word s : List ℕ) (d : Span) → length (quoted_fields word s d) ≤ length word + 55
unfolding quoted_fields quoted flat
quoted_fields_length word s d =
    simp length-append (omega (arith, first_length text_byte 4 13 text_byte_length d.len (drop d.start s)))

-- by the law of a list, where t stands three times, each time with the longest number of a slot
other_length : (s : List ℕ) (t : Descriptor) → length (descriptor_fields s t) ≤ 87
unfolding descriptor_lines held_line each flat field16 decimal_in
other_length s t =
    let h : Held = record { descriptor = t; slot = 65535 } in
    omega (arith, simp length-append at (descriptor_lengths s (record { items = h ∷ h ∷ h ∷ []; len = 3 })))

fields_length : (s : List ℕ) (t : Descriptor) → length (entry_fields s t) ≤ 87
unfolding entry_fields
fields_length s (Serial d) = omega (arith, quoted_fields_length (text "serial") s d)
fields_length s (Text d) = omega (arith, quoted_fields_length (text "text") s d)
fields_length s (Range l t) = other_length s (Range l t)
fields_length s (Name d) = omega (arith, quoted_fields_length (text "name") s d)
fields_length s (Undefined tag d) = other_length s (Undefined tag d)
fields_length s (MakerDefined tag d) = other_length s (MakerDefined tag d)

entry_length : (s : List ℕ) (h : Held) → length (entry_line s h) ≤ 94
unfolding entry_line flat
entry_length s h = simp length-append (omega (arith, fields_length s h.descriptor, field16_length h.slot))

entry_lengths : (s : List ℕ) (l : Descriptors) → length (entry_lines s l) ≤ 282
unfolding entry_lines
entry_lengths s l = first_length (entry_line s) 94 3 (entry_length s) l.len l.items

judged_length : (s : List ℕ) (e : StandardRecord) (t : Verdict) → length (judged_text s e t) ≤ 2235
unfolding judged_text panel_lines flat
judged_length s e (Ok tt) =
    simp length-append (omega (arith, main_length e, entry_lengths s e.descriptors, extensions_length e.extensions))
judged_length s e (Err f) = omega (arith, refuse_length f)

-- of every reading, whatever its record holds
pub short : (s : List ℕ) (t : StandardReading) → length (panel_text s t) ≤ 2235
unfolding panel_text
short s t = judged_length s t.edid t.end

pub printed : (s : List ℕ) (t : StandardReading) (p q : Page) → length p.out.now ≡ 4096 → p.at ≡ 0 → q ≡ p ▷ panel_text s t
    → (take q.at q.out.now ≡ panel_text s t) × (drop q.at q.out.now ≡ drop q.at p.out.now)
printed s t p q l z e = let h = short s t in whole (panel_text s t) p q l z (omega arith) e

-- what `panel_lines::panel` ensures leaves one count and one page
pub one : (s : List ℕ) (t : StandardReading) (out p q : List ℕ) (m n : ℕ) → length p ≡ 4096 → length q ≡ 4096
    → (take m p ≡ panel_text s t) × (drop m p ≡ drop m out) → (take n q ≡ panel_text s t) × (drop n q ≡ drop n out)
    → (m ≡ n) × (p ≡ q)
one s t out p q m n = let h = short s t in only (panel_text s t) out p q m n (omega arith)
