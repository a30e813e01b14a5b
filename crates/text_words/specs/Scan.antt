-- How far a word and a gap between words go, and that the words of a line are found so.
use Rattle.std.specs.Prelude.{ℕ, suc, ◌+◌, ◌<◌, ◌≤◌, Bool, true, false, cond, List, [], ◌∷◌, ◌≡◌, refl, length, get_or, take, drop}
use Rattle.std.proofs.Common.{sym, ap, ◌∙◌, add-one, arith, drop_of_length-le, drop-cons}
use Rattle.text_words.specs.Words.{is_blank, opens_blank, onto, parts, turned, words_from, words}

-- the first word
unfoldable pub word_length : Bool → List ℕ → ℕ
word_length quoted [] = 0
word_length quoted (b ∷ s) = cond (parts quoted b) 0 (suc (word_length (turned quoted b) s))

-- the blanks that come first
unfoldable pub gap_length : List ℕ → ℕ
gap_length [] = 0
gap_length (b ∷ s) = cond (is_blank b) (suc (gap_length s)) 0

-- the words behind the end of one
abbrev pub behind : List ℕ → List (List ℕ)
behind [] = []
behind (b ∷ s) = words (drop (gap_length (b ∷ s)) (b ∷ s))

pub gap_more : (b : ℕ) (s : List ℕ) → is_blank b ≡ true → gap_length (b ∷ s) ≡ suc (gap_length s)
unfolding gap_length
gap_more b s h = rw h

abbrev Are : Bool → List ℕ → Type 0
Are quoted s = words_from quoted s ≡ take (word_length quoted s) s ∷ behind (drop (word_length quoted s) s)

blank_first : (s : List ℕ) → Are false s → cond (opens_blank s) (words_from false s) ([] ∷ words_from false s) ≡ [] ∷ words (drop (gap_length s) s)
unfolding word_length gap_length
blank_first [] e = refl
blank_first (c ∷ s) e = go (is_blank c) refl e
  where
    go : (t : Bool) → is_blank c ≡ t → words_from false (c ∷ s) ≡ take (cond t 0 (suc (word_length (turned false c) s))) (c ∷ s) ∷ behind (drop (cond t 0 (suc (word_length (turned false c) s))) (c ∷ s))
        → cond t (words_from false (c ∷ s)) ([] ∷ words_from false (c ∷ s)) ≡ [] ∷ words (drop (cond t (suc (gap_length s)) 0) (c ∷ s))
    go true h e = e ∙ ap (λ n. [] ∷ words (drop n (c ∷ s))) (gap_more c s h)
    go false h e = refl

pub words_are : (quoted : Bool) (s : List ℕ) → Are quoted s
unfolding words_from word_length
words_are quoted [] = refl
words_are true (b ∷ s) = ap (onto b) (words_are (turned true b) s)
words_are false (b ∷ s) = go (is_blank b) refl (words_are false s) (words_are (turned false b) s)
  where
    go : (t : Bool) → is_blank b ≡ t → Are false s → Are (turned false b) s
        → cond t (cond (opens_blank s) (words_from false s) ([] ∷ words_from false s)) (onto b (words_from (turned false b) s))
        ≡ take (cond t 0 (suc (word_length (turned false b) s))) (b ∷ s) ∷ behind (drop (cond t 0 (suc (word_length (turned false b) s))) (b ∷ s))
    go true h e f = blank_first s e ∙ ap (λ n. [] ∷ words (drop n (b ∷ s))) (sym (gap_more b s h))
    go false h e f = ap (onto b) f

-- ---- how many they are

pub words_some : (quoted : Bool) (s : List ℕ) → 0 < length (words_from quoted s)
words_some quoted s = omega (arith, ap length (words_are quoted s))

length_onto : (b : ℕ) (ws : List (List ℕ)) → 0 < length ws → length (onto b ws) ≡ length ws
length_onto b [] h = absurd (omega arith)
length_onto b (w ∷ ws) h = refl

pub words_few : (quoted : Bool) (s : List ℕ) → length (words_from quoted s) ≤ suc (length s)
unfolding words_from
words_few quoted [] = omega arith
words_few quoted (b ∷ s) = go (parts quoted b) (opens_blank s) (words_few quoted s) (words_few (turned quoted b) s)
  where
    go : (t u : Bool) → length (words_from quoted s) ≤ suc (length s) → length (words_from (turned quoted b) s) ≤ suc (length s)
        → length (cond t (cond u (words_from quoted s) ([] ∷ words_from quoted s)) (onto b (words_from (turned quoted b) s))) ≤ suc (suc (length s))
    go true true h k = omega arith
    go true false h k = omega arith
    go false u h k = omega (arith, length_onto b (words_from (turned quoted b) s) (words_some (turned quoted b) s))

-- ---- byte after byte

module _ (l : List ℕ) (k : ℕ) (h : k < length l) where
  pub word_stops : (quoted : Bool) → parts quoted (get_or l k 0) ≡ true → word_length quoted (drop k l) ≡ 0
  unfolding word_length
  word_stops quoted e = rw (drop-cons l k 0 h, e)

  pub word_goes_on : (quoted : Bool) → parts quoted (get_or l k 0) ≡ false → word_length quoted (drop k l) ≡ suc (word_length (turned quoted (get_or l k 0)) (drop (k + 1) l))
  unfolding word_length
  word_goes_on quoted e = rw (drop-cons l k 0 h, e, add-one)

module _ (l : List ℕ) (k : ℕ) (h : length l ≤ k) where
  pub word_over : (quoted : Bool) → word_length quoted (drop k l) ≡ 0
  unfolding word_length
  word_over quoted = rw (drop_of_length-le l {i = k} h)
