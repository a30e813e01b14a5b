-- The text of a panel, byte for byte: the lines of the standard listing but `accept`, and where it has a text's start and length, the text itself.
use Rattle.std.specs.Prelude.{ℕ, min, cond, List, [], ◌∷◌, take, drop, Ok, Err}
use Rattle.text_words.specs.Words.{is_plain}
use Rattle.page.specs.Words.{text, space, newline, field16, hex_of2, flat, each}
use Rattle.steps.specs.declared.Span.{Span}
use Rattle.standard_record.specs.declared.Descriptor.{Descriptor}
use Rattle.standard_record.specs.declared.Descriptor.TheVariants.{Serial, Text, Range, Name, Undefined, MakerDefined}
use Rattle.standard_record.specs.declared.Held.{Held}
use Rattle.standard_record.specs.Lists.{Descriptors}
use Rattle.standard_record.specs.declared.StandardRecord.{StandardRecord}
use Rattle.standard_record.specs.Verdict.{Verdict}
use Rattle.standard_record.specs.declared.StandardReading.{StandardReading}
use Rattle.shared_lines.specs.Lines.{extensions_line, refuse_line}
use Rattle.standard_slot_lines.specs.Lines.{descriptor_fields}
use Rattle.standard_lines.specs.Main.{main_lines}

-- ---- a text

-- a byte as it is, or \x and its two hexadecimal digits
unfoldable pub text_byte : ℕ → List ℕ
text_byte b = cond (is_plain b) (b ∷ []) (flat (text "\\x" ∷ hex_of2 b ∷ []))

-- the bytes of a text between two quotes: one word of a line
unfoldable pub quoted : List ℕ → List ℕ
quoted t = flat (text "\"" ∷ each text_byte t ∷ text "\"" ∷ [])

-- ---- a descriptor

-- a text, by its word and its bytes in the input s; a slot holds no text above 13 bytes, and no more are shown
unfoldable pub quoted_fields : List ℕ → List ℕ → Span → List ℕ
quoted_fields word s d = flat (word ∷ space ∷ quoted (take (min d.len 13) (drop d.start s)) ∷ [])

-- a text by its bytes; any other as in the listing
unfoldable pub entry_fields : List ℕ → Descriptor → List ℕ
entry_fields s (Serial d) = quoted_fields (text "serial") s d
entry_fields s (Text d) = quoted_fields (text "text") s d
entry_fields s (Range l t) = descriptor_fields s (Range l t)
entry_fields s (Name d) = quoted_fields (text "name") s d
entry_fields s (Undefined tag d) = descriptor_fields s (Undefined tag d)
entry_fields s (MakerDefined tag d) = descriptor_fields s (MakerDefined tag d)

-- the slot's number last, as in each line of an entry
unfoldable pub entry_line : List ℕ → Held → List ℕ
entry_line s h = flat (entry_fields s h.descriptor ∷ field16 h.slot ∷ newline ∷ [])

-- a length above the list's size counts as that size
unfoldable pub entry_lines : List ℕ → Descriptors → List ℕ
entry_lines s l = each (entry_line s) (take (min l.len 3) l.items)

-- ---- the whole

-- of a record of the input s
unfoldable pub panel_lines : List ℕ → StandardRecord → List ℕ
panel_lines s e = flat (main_lines e ∷ entry_lines s e.descriptors ∷ extensions_line e.extensions ∷ [])

-- a refusal is the listing's one line
unfoldable pub judged_text : List ℕ → StandardRecord → Verdict → List ℕ
judged_text s e (Ok tt) = panel_lines s e
judged_text s e (Err f) = refuse_line f

-- of a reading of the input s
unfoldable pub panel_text : List ℕ → StandardReading → List ℕ
panel_text s r = judged_text s r.edid r.end
