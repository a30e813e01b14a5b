-- The bytes of a list by their places; past its end every byte is 0, and a part is cut short.
use Rattle.std.specs.Prelude.{ℕ, List, get_or, take, drop}

infixl 90 ◌!◌
-- the byte at k
abbrev pub ◌!◌ : List ℕ → ℕ → ℕ
s ! k = get_or s k 0

-- the n bytes from k on
abbrev pub part : List ℕ → ℕ → ℕ → List ℕ
part s k n = take n (drop k s)
