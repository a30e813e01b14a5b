-- A line is made of words with one space between them, and its words are these.
use Rattle.std.specs.Prelude.{ℕ, Bool, true, false, cond, not, ◌&&◌, List, [], ◌∷◌, ◌++◌, ◌≡◌, refl}
use Rattle.std.proofs.Common.{sym, ap, subst, arith}
use Rattle.text_words.specs.Words.{is_blank, opens_blank, onto, parts, turned, words_from, words}

-- no byte parts it, and it ends outside of quotes
unfoldable pub solid_from : Bool → List ℕ → Bool
solid_from quoted [] = not quoted
solid_from quoted (b ∷ w) = not (parts quoted b) && solid_from (turned quoted b) w

-- a word that can stand in a line
abbrev pub solid : List ℕ → Bool
solid [] = false
solid (b ∷ w) = solid_from false (b ∷ w)

-- each with a space before it
unfoldable pub spaced : List (List ℕ) → List ℕ
spaced [] = []
spaced (w ∷ ws) = 32 ∷ w ++ spaced ws

abbrev pub all_solid : List (List ℕ) → Bool
all_solid [] = true
all_solid (w ∷ ws) = solid w && all_solid ws

and_true : (s t : Bool) → (s && t) ≡ true → (s ≡ true) × (t ≡ true)
and_true true true e = (refl, refl)
and_true true false e = (refl, e)
and_true false t e = (e, absurd (omega (arith, ap {B = ℕ} (λ t. cond t 1 0) e)))

not_true : (t : Bool) → not t ≡ true → t ≡ false
not_true true e = sym e
not_true false e = refl

-- a solid word, and what its first byte is
first_solid : (w t : List ℕ) → solid w ≡ true → opens_blank (w ++ t) ≡ false
unfolding solid_from
first_solid [] t e = absurd (omega (arith, ap {B = ℕ} (λ t. cond t 1 0) e))
first_solid (b ∷ w) t e = not_true (is_blank b) (and_true (not (is_blank b)) (solid_from (turned false b) w) e).0

-- what follows a word: nothing, or a space and then something that is no blank
pub data Follows : List ℕ → List (List ℕ) → Type 0 where
  nothing : Follows [] []
  more : (t : List ℕ) → opens_blank t ≡ false → Follows (32 ∷ t) (words t)

ends : (t : List ℕ) (ws : List (List ℕ)) → Follows t ws → words_from false t ≡ [] ∷ ws
unfolding words_from
ends t ws nothing = refl
ends t ws (more u h) = rw h

pub word_first : (quoted : Bool) (w t : List ℕ) (ws : List (List ℕ)) → solid_from quoted w ≡ true → Follows t ws → words_from quoted (w ++ t) ≡ w ∷ ws
unfolding solid_from words_from
word_first true [] t ws e f = absurd (omega (arith, ap {B = ℕ} (λ t. cond t 1 0) e))
word_first false [] t ws e f = ends t ws f
word_first quoted (b ∷ w) t ws e f =
    let h = and_true (not (parts quoted b)) (solid_from (turned quoted b) w) e in
    rw (not_true (parts quoted b) h.0) (ap (onto b) (word_first (turned quoted b) w t ws h.1 f))

-- the words of a line
pub words_of_line : (ws : List (List ℕ)) (w : List ℕ) → all_solid ws ≡ true → solid w ≡ true → words (w ++ spaced ws) ≡ w ∷ ws
unfolding spaced
words_of_line [] [] h e = absurd (omega (arith, ap {B = ℕ} (λ t. cond t 1 0) e))
words_of_line [] (b ∷ w) h e = word_first false (b ∷ w) [] [] e nothing
words_of_line (v ∷ vs) [] h e = absurd (omega (arith, ap {B = ℕ} (λ t. cond t 1 0) e))
words_of_line (v ∷ vs) (b ∷ w) h e =
    let k = and_true (solid v) (all_solid vs) h in
    let next = words_of_line vs v k.1 k.0 in
    word_first false (b ∷ w) (32 ∷ v ++ spaced vs) (v ∷ vs) e
    (subst (Follows (32 ∷ v ++ spaced vs)) next (more (v ++ spaced vs) (first_solid v (spaced vs) k.0)))
