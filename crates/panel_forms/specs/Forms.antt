-- The forms of the lines of a panel's text, kind after kind.
use Rattle.std.specs.Prelude.{ℕ, Bool, true, false, cond, ◌&&◌, ◌||◌, List, [], ◌∷◌, eqb, leb, length, get_or}
use Rattle.page.specs.Words.{text}
use Rattle.text_words.specs.Words.{words, ◌word◌, same}
use Rattle.text_lines.specs.Lines.{lines, counted}
use Rattle.text_kinds.specs.Kinds.{is_number, fits}

-- In a form L stands for a letter or 0; f, t, s, b, h and w for a number up to 1, 3 and 6, and of 8, 16 and 32 bits; q for a text in quotes, and x for a
-- run of bytes. Any other word stands for itself.
abbrev pub forms : List (List ℕ)
forms =
    text "product L L L h w b h\nproduct L L L h w model h" ∷
    text "version b b" ∷
    text "analog b f f f f f\ndigital f\ndigital undefined b\ndigital b b\ndigital reserved b" ∷
    text "size none\nsize h h\nsize ratio h h" ∷
    text "gamma none\ngamma h" ∷
    text "dpms f f f t f f f\ndpms f f f e0 f f f\ndpms f f f e1 f f f\ndpms f f f e2 f f f\ndpms f f f e3 f f f" ∷
    text "chroma h h h h h h h h" ∷
    text "white b h h none h\nwhite b h h h h" ∷
    text "established b .." ∷
    text "standard h h h h h" ∷
    text "detailed w h h h h h h h h h h h h f s t f f h" ∷
    text "serial q h\ntext q h\nname q h\nundefined b x h\nmaker b x h\nrange h h w w w none h\nrange h h w w w gtf w b h b b h\nrange h h w w w other b x h" ∷
    text "extensions b" ∷ []

-- one of these forms
abbrev pub any_of : List (List ℕ) → List ℕ → Bool
any_of [] l = false
any_of (f ∷ fs) l = fits (words f) (words l) || any_of fs l

abbrev pub all_bytes : List (List ℕ) → Bool
all_bytes [] = true
all_bytes (w ∷ ws) = is_number 255 w && all_bytes ws

-- behind the first word, at most 17
abbrev pub bytes_behind : List (List ℕ) → Bool
bytes_behind [] = false
bytes_behind (w ∷ ws) = leb (length ws) 17 && all_bytes ws

-- the line of the established timings alone has no form: it goes on with as many numbers as there are
unfoldable pub are_established : List ℕ → Bool
are_established l = same (l word 0) (text "established") && bytes_behind (words l)

-- a line of this kind, by the kind's number
unfoldable pub is_line : ℕ → List ℕ → Bool
is_line kind l = cond (eqb kind 8) (are_established l) (any_of (counted (lines (get_or forms kind []))) l)
