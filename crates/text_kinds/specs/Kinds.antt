-- What a word of a text may be: a number, a letter, a text in quotes or a run of bytes in hexadecimal; and the forms of lines made of these.
use Rattle.std.specs.Prelude.{ℕ, zero, suc, ◌+◌, ◌-◌, ◌*◌, Bool, true, false, cond, not, ◌&&◌, ◌||◌, List, [], ◌∷◌, eqb, leb}
use Rattle.std.proofs.Math.Option.{Option, none, some}
use Rattle.text_words.specs.Words.{is_quote, is_plain, same}

-- ---- a number: decimal digits, no zero before another

abbrev pub within : ℕ → ℕ → ℕ → Bool
within low high b = leb low b && leb b high

abbrev pub is_digit : ℕ → Bool
is_digit b = within 48 57 b

abbrev pub all_digits : List ℕ → Bool
all_digits [] = true
all_digits (b ∷ w) = is_digit b && all_digits w

-- some digit, and the first of several is no zero
abbrev pub is_led : List ℕ → Bool
is_led [] = false
is_led (b ∷ []) = true
is_led (b ∷ c ∷ w) = not (eqb b 48)

-- the number that the digits of w stand for, behind those of v
abbrev pub value : ℕ → List ℕ → ℕ
value v [] = v
value v (b ∷ w) = value (10 * v + (b - 48)) w

-- at most this
unfoldable pub is_number : ℕ → List ℕ → Bool
is_number most w = is_led w && (all_digits w && leb (value 0 w) most)

-- 0 where it is none
unfoldable pub number_of : ℕ → List ℕ → ℕ
number_of most w = cond (is_number most w) (value 0 w) 0

unfoldable pub flag_of : List ℕ → Bool
flag_of w = eqb (number_of 1 w) 1

-- ---- a letter: a capital one, or 0 for none

abbrev pub is_capital : ℕ → Bool
is_capital b = within 65 90 b

unfoldable pub is_letter : List ℕ → Bool
is_letter [] = false
is_letter (b ∷ []) = eqb b 48 || is_capital b
is_letter (b ∷ c ∷ w) = false

unfoldable pub letter_of : List ℕ → ℕ
letter_of [] = 0
letter_of (b ∷ []) = cond (is_capital b) b 0
letter_of (b ∷ c ∷ w) = 0

-- ---- bytes, at most thirteen: in quotes, or in hexadecimal

-- a hexadecimal digit, in lower case
abbrev pub is_hex : ℕ → Bool
is_hex b = is_digit b || within 97 102 b

abbrev pub hex_value : ℕ → ℕ
hex_value b = cond (is_digit b) (b - 48) (b - 87)

-- what comes next: a byte and what is left behind it, the end, or neither
pub data Piece : Type 0 where
  byte : ℕ → List ℕ → Piece
  ends : Piece
  wrong : Piece

abbrev pub hex_pair : ℕ → ℕ → List ℕ → Piece
hex_pair a b s = cond (is_hex a && is_hex b) (byte (16 * hex_value a + hex_value b) s) wrong

-- behind a backslash
abbrev pub escape : List ℕ → Piece
escape [] = wrong
escape (x ∷ []) = wrong
escape (x ∷ a ∷ []) = wrong
escape (x ∷ a ∷ b ∷ s) = cond (eqb x 120) (hex_pair a b s) wrong

-- behind the closing quote
abbrev pub closing : List ℕ → Piece
closing [] = ends
closing (b ∷ s) = wrong

-- in quotes or not
unfoldable pub piece : Bool → List ℕ → Piece
piece true [] = wrong
piece true (b ∷ s) = cond (is_quote b) (closing s) (cond (eqb b 92) (escape s) (cond (is_plain b) (byte b s) wrong))
piece false [] = ends
piece false (a ∷ []) = wrong
piece false (a ∷ b ∷ s) = hex_pair a b s

-- one byte more
abbrev pub more : ℕ → Option (List ℕ) → Option (List ℕ)
more b none = none
more b (some bs) = some (b ∷ bs)

-- all to the end, at most n
unfoldable pub bytes_from : Bool → ℕ → List ℕ → Option (List ℕ)
bytes_from quoted zero s = elim (piece quoted s) [ byte b t ↦ none | ends ↦ some [] | wrong ↦ none ]
bytes_from quoted (suc n) s = elim (piece quoted s) [ byte b t ↦ more b (bytes_from quoted n t) | ends ↦ some [] | wrong ↦ none ]

-- a text, with its quotes
unfoldable pub text_of : List ℕ → Option (List ℕ)
text_of [] = none
text_of (b ∷ s) = cond (is_quote b) (bytes_from true 13 s) none

-- a run
unfoldable pub run_of : List ℕ → Option (List ℕ)
run_of [] = none
run_of (b ∷ s) = bytes_from false 13 (b ∷ s)

abbrev pub is_some : {A : Type 0} → Option A → Bool
is_some none = false
is_some (some a) = true

-- ---- a form: a line of words, of which those of one byte stand for any word of a kind, and the others for themselves

-- the most that a number may be, by its kind: f is a flag, t and s tell a type, b, h and w have 8, 16 and 32 bits
unfoldable pub most_of : ℕ → ℕ
most_of k =
    cond (eqb k 102) 1 (cond (eqb k 116) 3 (cond (eqb k 115) 6 (cond (eqb k 98) 255 (cond (eqb k 104) 65535 4294967295))))

-- L is a letter, q a text in quotes, x a run
unfoldable pub may_be : ℕ → List ℕ → Bool
may_be k w =
    cond (eqb k 76) (is_letter w)
    (cond (eqb k 113) (is_some (text_of w))
    (cond (eqb k 120) (is_some (run_of w))
    (is_number (most_of k) w)))

unfoldable pub may : List ℕ → List ℕ → Bool
may [] w = same [] w
may (k ∷ []) w = may_be k w
may (k ∷ c ∷ f) w = same (k ∷ c ∷ f) w

-- word for word
unfoldable pub fits : List (List ℕ) → List (List ℕ) → Bool
fits [] [] = true
fits [] (w ∷ ws) = false
fits (f ∷ fs) [] = false
fits (f ∷ fs) (w ∷ ws) = may f w && fits fs ws
