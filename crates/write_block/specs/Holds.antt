-- What it is to write one slot of a block.
use Rattle.std.specs.Prelude.{ℕ, Bool, List, map, length}
use Rattle.standard_record.specs.Seen.{Seen}
use Rattle.standard_parts.specs.Structure.{structure_of}
use Rattle.standard_parts.specs.declared.Structure.{Structure}
use Rattle.standard_slots.specs.Said.{Lists}
use Rattle.write_leaf.specs.Bytes.{Bytes}
use Rattle.write_leaf.specs.Leaf.{Writes}
use Rattle.write_pairs.specs.Pairs.{All}
use Rattle.write_slots.specs.Words.{words, SpanInside, Entries, entries}
use Rattle.write_slots.specs.Slot.{slot_bytes}
use Rattle.write_slots.specs.Writes.{Reads}

-- the entries, with the bytes that their spans show of s
abbrev pub entries_of : List ℕ → Lists → Entries
entries_of s l = entries l.timings l.pairs l.points (map (words s) l.descriptors)

-- by the revision
abbrev pub structure_from : Seen → Structure
structure_from x = structure_of x.version.revision

-- t is 18 bytes that show what l shows over the bytes lent, in a slot that is not the first
pub record Holds (σ : Structure) (lent : List ℕ) (t : List ℕ) (l : Lists) : Type 0 where
  pub inside : All (λ d. SpanInside d (length lent)) l.descriptors
  pub reads : Reads σ t (entries_of lent l)

abbrev pub slot_from : List ℕ → Lists → List ℕ
slot_from lent l = slot_bytes l.timings l.pairs l.points (map (words lent) l.descriptors)

abbrev pub WritesSlot : Structure → List ℕ → Lists → Bool → List ℕ → Type 0
WritesSlot σ lent = Writes Bytes (Holds σ lent) (slot_from lent)
