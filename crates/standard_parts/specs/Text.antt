-- A text: its bytes up to the first 0x0a, and what stands behind it.
use Rattle.std.specs.Prelude.{ℕ, suc, ◌+◌, Bool, true, false, cond, ◌||◌, List, [], ◌∷◌, eqb, drop}

-- how many bytes stand before the first 0x0a
abbrev pub text_length : List ℕ → ℕ
text_length [] = 0
text_length (b ∷ bs) = cond (eqb b 0x0a) 0 (suc (text_length bs))

-- each byte passes
abbrev pub every : (ℕ → Bool) → List ℕ → Bool
every passes [] = true
every passes (b ∷ bs) = cond (passes b) (every passes bs) false

-- the padding of fb and fd: 0x20
abbrev pub all_spaces : List ℕ → Bool
all_spaces = every (λ b. eqb b 0x20)

-- 0x20 or `other` at each byte
abbrev pub spaces_or : ℕ → List ℕ → Bool
spaces_or other = every (λ b. eqb b 0x20 || eqb b other)

-- the padding of a text, all that follows the byte at n: 0x20 or 0x00 at each byte
abbrev pub is_padded : List ℕ → ℕ → Bool
is_padded bs n = spaces_or 0x00 (drop (n + 1) bs)
