-- Worked texts: antt computes each definition.
use Rattle.std.specs.Prelude.{ℕ, List, [], ◌∷◌, ◌++◌, ◌≡◌, refl, replicate}
use Rattle.page.specs.Words.{text, each}
use Rattle.text_words.specs.Words.{words_from}
use Rattle.text_lines.specs.Lines.{lines, counted}
use Rattle.text_kinds.specs.Kinds.{is_number, number_of, piece, bytes_from, text_of}
use Rattle.shared_record.specs.Established.{established_timings}
use Rattle.standard_record.specs.Lists.{descriptors}
use Rattle.standard_record.specs.declared.Descriptor.TheVariants.{Serial, Name}
use Rattle.panel_entries.specs.Entries.{kept_in, span_of, held_by, held_of}
use Rattle.panel_lists.specs.Lists.{between, held_from, entries_of, bytes_of, numbers_of, established_of}

-- the second and the third line that count; fewer where there are fewer
lines_between : (between (text "a\nb\n#\nc\nd") 1 3 ≡ text "b" ∷ text "c" ∷ []) × (between (text "a\nb") 1 3 ≡ text "b" ∷ []) × (between (text "a\nb") 2 1 ≡ [])
unfolding between lines counted
lines_between = (refl, refl, refl)

-- the second entry keeps its bytes at 13
abbrev two : List ℕ
two = text "name \"AB\" 2\nserial \"C\" 3\n"

entries : entries_of two 0 2
    ≡ descriptors (
    record { descriptor = Name (record { start = 0; len = 2 }); slot = 2 }
    ∷ record { descriptor = Serial (record { start = 13; len = 1 }); slot = 3 }
    ∷ []
    )
unfolding between entries_of held_from held_of held_by span_of kept_in lines counted words_from is_number number_of piece bytes_from text_of
entries = refl

bytes : bytes_of two 0 2 ≡ 65 ∷ 66 ∷ replicate 11 0 ++ 67 ∷ replicate 25 0
unfolding between bytes_of each kept_in lines counted words_from piece bytes_from text_of
bytes = refl

established : established_of (text "established 0 16") ≡ established_timings (0 ∷ 16 ∷ [])
unfolding established_of numbers_of words_from is_number number_of
established = refl
