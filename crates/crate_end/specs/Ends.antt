-- The crate reading with no value kept: nothing but its header and its slots decides how it ends. And how far it comes, piece by piece.
use Rattle.std.specs.Prelude.{ℕ, zero, suc, List, Option}
use Rattle.steps.specs.Steps.{Steps, done, ◌>>=◌, ◌>>◌, Outcome, got, refused, run}
use Rattle.crate_head.specs.Head.{header}
use Rattle.crate_text.specs.Text.{skip}
use Rattle.crate_detailed.specs.Detailed.{detailed}
use Rattle.crate_record.specs.declared.DetailedTiming.{DetailedTiming}
use Rattle.crate_slots.specs.Slots.{Said, said_first, said_later}

-- the outcome without its value
abbrev pub end_of : {A : Type 0} → Outcome A → Outcome Unit
end_of (got a n) = got tt n
end_of (refused k n) = refused k n

-- the program without its value
abbrev pub bare : {A : Type 0} → Steps A → Steps Unit
bare p = p >> done tt

-- what the slot i says
abbrev pub said_at : ℕ → Option DetailedTiming → Steps Said
said_at zero t = said_first t
said_at (suc i) t = said_later t

-- in five pieces: the header with 46 bytes that decide nothing, and the four slots
unfoldable pub piece : ℕ → Steps Unit
piece zero = do
  header
  skip 46
piece (suc i) = do
  t ← detailed
  bare (said_at i t)

-- n pieces from the piece i on, then the extension count
unfoldable pub pieces_from : ℕ → ℕ → Steps Unit
pieces_from zero i = skip 1
pieces_from (suc n) i = piece i >> pieces_from n (suc i)

abbrev pub ends : Steps Unit
ends = pieces_from 5 0

-- ---- how far it comes

-- the piece that is not whole, 5 where all are; where it begins; and how the reading ends
pub record Went : Type 0 where
  pub piece : ℕ
  pub at : ℕ
  pub end : Outcome Unit

-- on from a value's place
abbrev pub onward : Outcome Unit → (ℕ → Went) → Went → Went
onward (got a n) on here = on n
onward (refused k n) on here = here

unfoldable pub went : ℕ → ℕ → List ℕ → ℕ → Went
went zero i s at = record { piece = i; at = at; end = run (skip 1) s at }
went (suc n) i s at = onward (run (piece i) s at) (λ k. went n (suc i) s k) (record { piece = i; at = at; end = run (piece i) s at })
