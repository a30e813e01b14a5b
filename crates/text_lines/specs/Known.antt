-- Worked texts: antt computes each definition.
use Rattle.std.specs.Prelude.{ℕ, List, [], ◌∷◌, ◌++◌, ◌≡◌, refl}
use Rattle.text_lines.specs.Lines.{lines, counted, number_from, content, line_number, newlines, line_at}

-- a comment, a line of a space and a tab, the line b, and no newline behind it
abbrev sample : List ℕ
sample = 35 ∷ 97 ∷ 10 ∷ 32 ∷ 9 ∷ 10 ∷ 98 ∷ []

three : lines sample ≡ (35 ∷ 97 ∷ []) ∷ (32 ∷ 9 ∷ []) ∷ (98 ∷ []) ∷ []
unfolding lines
three = refl

one_counts : (counted (lines sample) ≡ (98 ∷ []) ∷ []) × (line_number sample 0 ≡ 3)
unfolding lines counted number_from
one_counts = (refl, refl)

-- where there is no second one, the line after the last is the fourth, with a final newline too
no_second : (content sample 1 ≡ []) × (line_number sample 1 ≡ 4) × (line_number (sample ++ 10 ∷ []) 1 ≡ 4)
unfolding lines counted number_from
no_second = (refl, refl, refl)

-- an empty line is one, and behind the final newline there is none
empties : lines (10 ∷ 98 ∷ 10 ∷ []) ≡ [] ∷ (98 ∷ []) ∷ []
unfolding lines
empties = refl

nothing : (content [] 0 ≡ []) × (line_number [] 0 ≡ 1)
unfolding lines counted number_from
nothing = (refl, refl)

-- # behind a space begins no comment
hash_later : content (32 ∷ 35 ∷ 97 ∷ []) 0 ≡ 32 ∷ 35 ∷ 97 ∷ []
unfolding lines counted
hash_later = refl

-- a newline stands in the line that it ends
numbers_at : (line_at sample 0 ≡ 1) × (line_at sample 2 ≡ 1) × (line_at sample 3 ≡ 2) × (line_at sample 6 ≡ 3) × (line_at sample 100 ≡ 3)
unfolding newlines
numbers_at = (refl, refl, refl, refl, refl)
