-- The line of two blocks, byte for byte.
use Rattle.std.specs.Prelude.{ℕ, List, [], ◌∷◌, length}
use Rattle.bits.specs.Bytes.{part}
use Rattle.page.specs.Words.{text, space, newline, field, hex_of2, flat, each}
use Rattle.naming.specs.Name.{shown_of}
use Rattle.naming.specs.declared.Shown.{Shown}
use Rattle.naming.specs.declared.Shown.TheVariants.{Panel, Reference, Neither}

-- bytes in hexadecimal, behind a space; of none nothing
unfoldable pub run : List ℕ → List ℕ
run [] = []
run (b ∷ bs) = flat (space ∷ each hex_of2 (b ∷ bs) ∷ [])

unfoldable pub name_line : List ℕ → ℕ → List ℕ → List ℕ
name_line whose start name = flat (whose ∷ field start ∷ field (length name) ∷ run name ∷ newline ∷ [])

abbrev pub shown_line : Shown → List ℕ → List ℕ → List ℕ
shown_line (Panel t) panel reference = name_line (text "panel") t.start (part panel t.start t.len)
shown_line (Reference t) panel reference = name_line (text "reference") t.start (part reference t.start t.len)
shown_line Neither panel reference = text "refuse 18\n"

abbrev pub answer : List ℕ → List ℕ → List ℕ
answer panel reference = shown_line (shown_of panel reference) panel reference
