-- The lines of a text, and which of them count.
use Rattle.std.specs.Prelude.{ℕ, zero, suc, Bool, true, cond, ◌||◌, ◌&&◌, List, [], ◌∷◌, eqb, get_or, take}
use Rattle.text_words.specs.Words.{is_blank, onto}

abbrev pub is_newline : ℕ → Bool
is_newline b = eqb b 10

-- a newline ends its line; what stands behind the last one is a line too, unless it is empty
unfoldable pub lines : List ℕ → List (List ℕ)
lines [] = []
lines (b ∷ s) = cond (is_newline b) ([] ∷ lines s) (onto b (lines s))

abbrev pub all_blank : List ℕ → Bool
all_blank [] = true
all_blank (b ∷ l) = is_blank b && all_blank l

-- a line that does not count: # comes first, or there is nothing but spaces and tabs
abbrev pub is_idle : List ℕ → Bool
is_idle [] = true
is_idle (b ∷ l) = eqb b 35 || all_blank (b ∷ l)

-- the lines that count
unfoldable pub counted : List (List ℕ) → List (List ℕ)
counted [] = []
counted (l ∷ ls) = cond (is_idle l) (counted ls) (l ∷ counted ls)

-- the number of the line that counts at k, the first being at 0, of lines numbered from n on; of the line after the last where there are fewer
unfoldable pub number_from : ℕ → List (List ℕ) → ℕ → ℕ
number_from n [] k = n
number_from n (l ∷ ls) zero = cond (is_idle l) (number_from (suc n) ls zero) n
number_from n (l ∷ ls) (suc k) = number_from (suc n) ls (cond (is_idle l) (suc k) k)

-- the line that counts at k; the empty one where there are fewer
abbrev pub content : List ℕ → ℕ → List ℕ
content s k = get_or (counted (lines s)) k []

-- and its number, the first line being 1
abbrev pub line_number : List ℕ → ℕ → ℕ
line_number s k = number_from 1 (lines s) k

unfoldable pub newlines : List ℕ → ℕ
newlines [] = 0
newlines (b ∷ s) = cond (is_newline b) (suc (newlines s)) (newlines s)

-- the number of the line in which the byte at n stands
abbrev pub line_at : List ℕ → ℕ → ℕ
line_at s n = suc (newlines (take n s))
