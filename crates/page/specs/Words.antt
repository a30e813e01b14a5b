-- What a word, a number or a run of bytes is as text: the bytes of it.
use Rattle.std.specs.Prelude.{ℕ, zero, suc, ◌+◌, ◌/◌, ◌%◌, Bool, true, false, cond, List, [], ◌∷◌, ◌++◌, ltb, Float}
use Prim.Native.Char.{code}
use Prim.Native.String.{String, [] as []ˢ, ◌∷◌ as ◌∷ˢ◌}
use Rattle.std.specs.Float.{binary32}
use Rattle.std.specs.Float.Ieee.{to_bits}

-- a word: the codes of its characters, as in a byte string of the code
abbrev pub text : String → List ℕ
text []ˢ = []
text (c ∷ˢ s) = code c ∷ text s

abbrev pub space : List ℕ
space = 32 ∷ []

abbrev pub newline : List ℕ
newline = 10 ∷ []

-- n in decimal with no zeros in front, of k + 1 digits at most: those of n / 10, and then the last
unfoldable pub decimal_in : ℕ → ℕ → List ℕ
decimal_in zero n = (48 + n % 10) ∷ []
decimal_in (suc k) n = cond (ltb n 10) ((48 + n) ∷ []) (decimal_in k (n / 10) ++ ((48 + n % 10) ∷ []))

-- a number of a line, with the space before it: of 64 bits, so of 20 digits at most
unfoldable pub field : ℕ → List ℕ
field n = space ++ decimal_in 19 n

-- one of 32, 16 or 8 bits
unfoldable pub field32 : ℕ → List ℕ
field32 n = space ++ decimal_in 9 n

unfoldable pub field16 : ℕ → List ℕ
field16 n = space ++ decimal_in 4 n

unfoldable pub field8 : ℕ → List ℕ
field8 n = space ++ decimal_in 2 n

unfoldable pub flag : Bool → List ℕ
flag true = text " 1"
flag false = text " 0"

-- the hexadecimal digit of n % 16, in lower case
unfoldable pub hex_digit : ℕ → ℕ
hex_digit n = cond (ltb (n % 16) 10) (48 + n % 16) (87 + n % 16)

-- the last two, four and eight hexadecimal digits of n
unfoldable pub hex_of2 : ℕ → List ℕ
hex_of2 n = hex_digit (n / 16) ∷ hex_digit n ∷ []

unfoldable pub hex_of4 : ℕ → List ℕ
hex_of4 n = hex_of2 (n / 256) ++ hex_of2 n

unfoldable pub hex_of8 : ℕ → List ℕ
hex_of8 n = hex_of4 (n / 65536) ++ hex_of4 n

-- a float of a line: its bits
unfoldable pub float : Float → List ℕ
float x = space ++ hex_of8 (to_bits binary32 x)

-- pieces, one after the other
unfoldable pub flat : List (List ℕ) → List ℕ
flat [] = []
flat (x ∷ xs) = x ++ flat xs

-- f of each element, one after the other
unfoldable pub each : {A : Type 0} → (A → List ℕ) → List A → List ℕ
each f [] = []
each f (x ∷ xs) = f x ++ each f xs
