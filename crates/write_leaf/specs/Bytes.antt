-- Bytes, and how numbers are spread over them: plain arithmetic.
use Rattle.std.specs.Prelude.{ℕ, ◌+◌, ◌*◌, ◌/◌, ◌%◌, ◌<◌, Bool, true, false, List}
use Rattle.bits.specs.Bytes.{◌!◌}

-- each is below 256
abbrev pub Bytes : List ℕ → Type 0
Bytes t = (i : ℕ) → t ! i < 256

-- a digit
abbrev pub digit : Bool → ℕ
digit true = 1
digit false = 0

-- the last eight digits
abbrev pub low : ℕ → ℕ
low n = n % 256

-- the last four digits of a over those of b
abbrev pub nibbles : ℕ → ℕ → ℕ
nibbles a b = a % 16 * 16 + b % 16

-- the four digits above the last eight, of a over those of b
abbrev pub uppers : ℕ → ℕ → ℕ
uppers a b = nibbles (a / 256) (b / 256)
