-- The smallest programs, and answers as outcomes.
use Rattle.std.specs.Prelude.{ℕ, ◌+◌, ◌*◌, ◌≡◌, Result, Ok, Err}
use Rattle.steps.specs.Steps.{Steps, done, next, here, ◌>>=◌, Outcome, got, refused}
use Rattle.steps.specs.declared.Refusal.{Refusal}

unfoldable pub byte : Steps ℕ
byte = next (λ b. done b)

-- the position
abbrev pub place : Steps ℕ
place = here (λ n. done n)

-- 16 bits, the low byte first
unfoldable pub word : Steps ℕ
word = do
  lo ← byte
  hi ← byte
  done (lo + 256 * hi)

-- 32 bits, the low word first
unfoldable pub long : Steps ℕ
long = do
  lo ← word
  hi ← word
  done (lo + 65536 * hi)

-- two and four bytes at once: for the code alone, since a definition takes one byte after the other
unfoldable pub two : Steps (ℕ × ℕ)
two = do
  a ← byte
  b ← byte
  done (a, b)

unfoldable pub four : Steps (ℕ × ℕ × ℕ × ℕ)
four = do
  a ← byte
  b ← byte
  c ← byte
  d ← byte
  done (a, b, c, d)

-- ---- answers

-- a value with the place behind it, or the refusal's number and place
abbrev pub outcome : {A : Type 0} → Result A Refusal → ℕ → Outcome A
outcome (Ok a) at = got a at
outcome (Err f) at = refused f.number f.at

-- on a refusal the cursor stands where it is refused
abbrev pub Stands : {A : Type 0} → Result A Refusal → ℕ → Type 0
Stands (Ok a) n = Unit
Stands (Err f) n = f.at ≡ n

-- of a value that lies beside its reading's end: the place behind, or the refusal
abbrev pub ended : {A : Type 0} → A → Result ℕ Refusal → Outcome A
ended a (Ok n) = got a n
ended a (Err f) = refused f.number f.at

-- on a refusal the value is the filler
abbrev pub Filled : {A : Type 0} → A → A → Result ℕ Refusal → Type 0
Filled filler a (Ok n) = Unit
Filled filler a (Err f) = a ≡ filler

pub record Beside {A : Type 0} (filler a : A) (e : Result ℕ Refusal) (o : Outcome A) : Type 0 where
  pub answer : ended a e ≡ o
  pub filled : Filled filler a e
