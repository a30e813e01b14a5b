-- How far a line goes, and that the lines of a text are found so.
use Rattle.std.specs.Prelude.{ℕ, suc, ◌<◌, Bool, true, false, cond, List, [], ◌∷◌, ◌≡◌, refl, length, take, drop}
use Rattle.std.proofs.Common.{ap, arith}
use Rattle.text_lines.specs.Lines.{is_newline, lines}
use Rattle.text_words.specs.Words.{onto}

-- the first line
unfoldable pub line_length : List ℕ → ℕ
line_length [] = 0
line_length (b ∷ s) = cond (is_newline b) 0 (suc (line_length s))

abbrev Are : List ℕ → Type 0
Are s = lines s ≡ take (line_length s) s ∷ lines (drop (suc (line_length s)) s)

onto_first : (b : ℕ) (s : List ℕ) → (0 < length s → Are s) → onto b (lines s) ≡ (b ∷ take (line_length s) s) ∷ lines (drop (suc (line_length s)) s)
unfolding lines line_length
onto_first b [] e = refl
onto_first b (c ∷ s) e = ap (onto b) (e (omega arith))

pub lines_are : (s : List ℕ) → 0 < length s → Are s
unfolding lines line_length
lines_are [] h = absurd (omega arith)
lines_are (b ∷ s) h = go (is_newline b) (onto_first b s (lines_are s))
  where
    go : (t : Bool) → onto b (lines s) ≡ (b ∷ take (line_length s) s) ∷ lines (drop (suc (line_length s)) s) → cond t ([] ∷ lines s) (onto b (lines s))
        ≡ take (cond t 0 (suc (line_length s))) (b ∷ s) ∷ lines (drop (suc (cond t 0 (suc (line_length s)))) (b ∷ s))
    go true e = refl
    go false e = e
