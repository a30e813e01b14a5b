-- What a text of whole lines has as its lines, and how many newlines a text has.
use Rattle.std.specs.Prelude.{ℕ, zero, suc, ◌+◌, ◌<◌, Bool, true, false, cond, List, [], ◌∷◌, ◌++◌, ◌≡◌, refl, length, get_or}
use Rattle.std.proofs.Common.{ap, arith}
use Rattle.text_words.specs.Words.{onto}
use Rattle.text_lines.specs.Lines.{is_idle, is_newline, lines, counted, newlines}

pub newlines_append : (s t : List ℕ) → newlines (s ++ t) ≡ newlines s + newlines t
unfolding newlines
newlines_append [] t = omega arith
newlines_append (b ∷ s) t = go (is_newline b) (newlines_append s t)
  where
    go : (y : Bool) → newlines (s ++ t) ≡ newlines s + newlines t → cond y (suc (newlines (s ++ t))) (newlines (s ++ t)) ≡ cond y (suc (newlines s)) (newlines s) + newlines t
    go true e = omega arith
    go false e = e

-- ---- a line in front of a text

pub lines_whole : (l t : List ℕ) → newlines l ≡ 0 → lines (l ++ 10 ∷ t) ≡ l ∷ lines t
unfolding lines newlines
lines_whole [] t h = refl
lines_whole (b ∷ l) t h = go (is_newline b) h (lines_whole l t)
  where
    go : (y : Bool) → cond y (suc (newlines l)) (newlines l) ≡ 0 → (newlines l ≡ 0 → lines (l ++ 10 ∷ t) ≡ l ∷ lines t)
        → cond y ([] ∷ lines (l ++ 10 ∷ t)) (onto b (lines (l ++ 10 ∷ t))) ≡ (b ∷ l) ∷ lines t
    go true h e = absurd (omega arith)
    go false h e = ap (onto b) (e h)

pub counted_whole : (l t : List ℕ) → newlines l ≡ 0 → is_idle l ≡ false → counted (lines (l ++ 10 ∷ t)) ≡ l ∷ counted (lines t)
unfolding counted
counted_whole l t h e = rw (lines_whole l t h, e)

pub counted_idle : (l t : List ℕ) → newlines l ≡ 0 → is_idle l ≡ true → counted (lines (l ++ 10 ∷ t)) ≡ counted (lines t)
unfolding counted
counted_idle l t h e = rw (lines_whole l t h, e)

-- ---- a line that counts is not empty

pub counted_some : (ls : List (List ℕ)) (k : ℕ) → k < length (counted ls) → 0 < length (get_or (counted ls) k [])
unfolding counted
counted_some [] k h = absurd (omega arith)
counted_some ([] ∷ ls) k h = counted_some ls k h
counted_some ((b ∷ l) ∷ ls) k h = go (is_idle (b ∷ l)) k h (counted_some ls)
  where
    go : (y : Bool) (k : ℕ) → k < length (cond y (counted ls) ((b ∷ l) ∷ counted ls)) → ((k : ℕ) → k < length (counted ls) → 0 < length (get_or (counted ls) k []))
        → 0 < length (get_or (cond y (counted ls) ((b ∷ l) ∷ counted ls)) k [])
    go true k h f = f k h
    go false zero h f = omega arith
    go false (suc k) h f = f k (omega arith)
