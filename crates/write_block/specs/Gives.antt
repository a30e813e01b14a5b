-- When a block gives a record, and what the writer answers.
use Rattle.std.specs.Prelude.{ℕ, ◌≡◌, List, length, Ok}
use Rattle.standard_record.specs.Seen.{seen}
use Rattle.standard_record.specs.declared.StandardRecord.{StandardRecord}
use Rattle.standard_record.specs.declared.Held.{Held}
use Rattle.standard_reading.specs.Block.{standard_of}
use Rattle.write_leaf.specs.Bytes.{Bytes}
use Rattle.write_pairs.specs.Pairs.{All}
use Rattle.write_slots.specs.Words.{SpanInside}
use Rattle.write_block.specs.Shown.{shown}
use Rattle.write_block.specs.Canonical.{block_of}

-- every span ends by the place n
abbrev pub SpansInside : List Held → ℕ → Type 0
SpansInside hs n = All (λ h. SpanInside h.descriptor n) hs

-- b is bytes that the standard reading accepts, and its record shows over b what r shows over the bytes lent
pub record Gives (b : List ℕ) (r : StandardRecord) (lent : List ℕ) : Type 0 where
  pub bytes : Bytes b
  pub accepted : (standard_of b).end ≡ Ok tt
  pub inside : SpansInside (seen r).descriptors (length lent)
  pub same : shown b (seen (standard_of b).edid) ≡ shown lent (seen r)

abbrev pub NoneGives : StandardRecord → List ℕ → Type 0
NoneGives r lent = (b : List ℕ) → Gives b r lent → ⊥

-- the number, and the output before and after
pub data Written (r : StandardRecord) (lent before : List ℕ) (number : ℕ) (after : List ℕ) : Type 0 where
  wrong_length : (length before ≡ 128 → ⊥) → number ≡ 10 → after ≡ before → Written r lent before number after
  no_block : length before ≡ 128 → NoneGives r lent → number ≡ 11 → after ≡ before → Written r lent before number after
  written : length before ≡ 128 → Gives after r lent → number ≡ 0 → after ≡ block_of (shown lent (seen r)) → Written r lent before number after
