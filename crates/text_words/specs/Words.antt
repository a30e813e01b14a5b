-- The words of a line: what stands between its runs of spaces and tabs. Between a quote and the next one they part no words.
use Rattle.std.specs.Prelude.{ℕ, suc, Bool, true, false, cond, not, ◌||◌, ◌&&◌, List, [], ◌∷◌, eqb, leb, length, get_or}

abbrev pub is_blank : ℕ → Bool
is_blank b = eqb b 32 || eqb b 9

abbrev pub is_quote : ℕ → Bool
is_quote b = eqb b 34

-- a byte that stands in quotes as it is: from the space to the tilde, but for the quote and the backslash
abbrev pub is_plain : ℕ → Bool
is_plain b = leb 0x20 b && leb b 0x7e && not (is_quote b) && not (eqb b 0x5c)

-- whether a blank comes first
abbrev pub opens_blank : List ℕ → Bool
opens_blank [] = false
opens_blank (b ∷ s) = is_blank b

-- a byte before the first of some lists, where there is one
abbrev pub onto : ℕ → List (List ℕ) → List (List ℕ)
onto b [] = (b ∷ []) ∷ []
onto b (w ∷ ws) = (b ∷ w) ∷ ws

-- whether b stands between words, and whether what follows it is inside of quotes: by whether b is
abbrev pub parts : Bool → ℕ → Bool
parts quoted b = not quoted && is_blank b

abbrev pub turned : Bool → ℕ → Bool
turned quoted b = cond (is_quote b) (not quoted) quoted

-- a blank at either end of a line has an empty word beside it
unfoldable pub words_from : Bool → List ℕ → List (List ℕ)
words_from quoted [] = [] ∷ []
words_from quoted (b ∷ s) =
    cond (parts quoted b) (cond (opens_blank s) (words_from quoted s) ([] ∷ words_from quoted s))
    (onto b (words_from (turned quoted b) s))

abbrev pub words : List ℕ → List (List ℕ)
words l = words_from false l

infixl 90 ◌word◌
-- the word at k, the first being at 0; the empty one where there is none
abbrev pub ◌word◌ : List ℕ → ℕ → List ℕ
l word k = get_or (words l) k []

-- whether no word stands behind it
abbrev pub last_word : List ℕ → ℕ → Bool
last_word l k = leb (length (words l)) (suc k)

abbrev pub same : List ℕ → List ℕ → Bool
same [] [] = true
same [] (c ∷ w) = false
same (b ∷ v) [] = false
same (b ∷ v) (c ∷ w) = eqb b c && same v w
