-- Where a span lies, and what a text is: for both readings. s is the input.
use Rattle.std.specs.Prelude.{ℕ, ◌+◌, ◌≤◌, ◌<◌, ◌≡◌, List}
use Rattle.bits.specs.Bytes.{◌!◌}
use Rattle.steps.specs.declared.Span.{Span}

-- before the place n
abbrev pub Inside : Span → ℕ → Type 0
Inside t n = t.start + t.len ≤ n

-- at most 13 bytes, none of them 0x0a; behind fewer than 13 stands 0x0a
pub record Text (s : List ℕ) (t : Span) (n : ℕ) : Type 0 where
  pub inside : Inside t n
  pub short : t.len ≤ 13
  pub clean : (i : ℕ) → i < t.len → s ! (t.start + i) ≡ 0x0a → ⊥
  pub behind : t.len < 13 → (t.start + t.len < n) × (s ! (t.start + t.len) ≡ 0x0a)
