-- A text: up to 13 bytes to the first 0x0a; what follows within the 13 must be 0x20. Raw runs, and bytes skipped.
use Rattle.std.specs.Prelude.{ℕ, zero, suc, ◌+◌, ◌-◌, cond, eqb}
use Rattle.steps.specs.Steps.{Steps, done, ◌>>=◌, ◌>>◌, ensure}
use Rattle.steps.specs.Leaves.{byte, place}
use Rattle.steps.specs.declared.Span.{Span}

-- n more bytes at most, i of them passed: how many are passed where 0x0a stands, or all
unfoldable pub scan : ℕ → ℕ → Steps ℕ
scan zero i = done i
scan (suc n) i = do
  b ← byte
  cond (eqb b 0x0a) (done i) (scan n (i + 1))

-- n bytes that must be 0x20
unfoldable pub padding : ℕ → Steps Unit
padding zero = done tt
padding (suc n) = do
  b ← byte
  ensure (eqb b 0x20) 5
  padding n

-- n bytes, whatever they are
unfoldable pub skip : ℕ → Steps Unit
skip zero = done tt
skip (suc n) = byte >> skip n

-- n bytes, as a span of the input
unfoldable pub span : ℕ → Steps Span
span n = do
  start ← place
  skip n
  done (record { start = start; len = n })

unfoldable pub text : Steps Span
text = do
  start ← place
  len ← scan 13 0
  padding (12 - len)
  done (record { start = start; len = len })
