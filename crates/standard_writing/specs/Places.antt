-- How far the lists of a record are used up.
use Rattle.std.specs.Prelude.{◌≡◌, ℕ, ◌+◌, ◌≤◌, Bool, true, List, length, drop}
use Rattle.standard_record.specs.Seen.{Seen}
use Rattle.standard_parts.specs.declared.Structure.{Structure}
use Rattle.standard_slots.specs.Said.{Lists}
use Rattle.standard_slots.specs.Answers.{of_points}
use Rattle.standard_slots.specs.declared.Points.{Points}
use Rattle.write_block.specs.Taken.{Rest, Empty}
use Rattle.write_block.specs.Holds.{WritesSlot}
use Rattle.standard_writing.specs.declared.Place.{Place}

-- what is left at a place
abbrev pub ahead : Seen → Place → Rest
ahead x at = record {
  timings = drop at.timed x.detailed;
  pairs = drop at.listed x.standard;
  points = drop at.pointed x.points;
  descriptors = drop at.entered x.descriptors;
}

-- small enough that no count overflows
pub record Small (at : Place) : Type 0 where
  pub timed : at.timed ≤ 100
  pub listed : at.listed ≤ 100
  pub pointed : at.pointed ≤ 100
  pub entered : at.entered ≤ 100

-- past these entries
pub record Moved (l : Lists) (at after : Place) : Type 0 where
  pub timed : after.timed ≡ at.timed + length l.timings
  pub listed : after.listed ≡ at.listed + length l.pairs
  pub pointed : after.pointed ≡ at.pointed + length l.points
  pub entered : after.entered ≡ at.entered + length l.descriptors

-- a slot that takes these entries is written, and the lists stand behind them
abbrev pub Turned : Structure → List ℕ → Place → Place → Bool → List ℕ → Lists → Type 0
Turned σ lent at after fits bytes l = WritesSlot σ lent l fits bytes × Moved l at after

abbrev pub many : Points → ℕ
many ps = length (of_points ps)

-- whether nothing is left
pub record UsedUp (r : Rest) (used : Bool) : Type 0 where
  pub sound : used ≡ true → Empty r
  pub complete : Empty r → used ≡ true
