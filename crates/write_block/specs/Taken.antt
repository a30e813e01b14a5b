-- How the lists of a record are used up, slot by slot.
use Rattle.std.specs.Prelude.{ℕ, zero, suc, ◌+◌, ◌≡◌, List, [], ◌∷◌, length, drop}
use Rattle.standard_record.specs.Seen.{Seen}
use Rattle.standard_record.specs.Held.{held_point, held_pair, held_timing, held}
use Rattle.standard_record.specs.declared.DetailedTiming.{DetailedTiming}
use Rattle.standard_record.specs.declared.StandardTiming.{StandardTiming}
use Rattle.standard_record.specs.declared.WhitePoint.{WhitePoint}
use Rattle.standard_record.specs.declared.Descriptor.{Descriptor}
use Rattle.standard_record.specs.declared.HeldPoint.{HeldPoint}
use Rattle.standard_record.specs.declared.HeldPair.{HeldPair}
use Rattle.standard_record.specs.declared.HeldTiming.{HeldTiming}
use Rattle.standard_record.specs.declared.Held.{Held}
use Rattle.standard_slots.specs.Said.{Lists, four}
use Rattle.write_pairs.specs.Run.{run}

-- what is left of the four lists
pub record Rest : Type 0 where
  pub timings : List HeldTiming
  pub pairs : List HeldPair
  pub points : List HeldPoint
  pub descriptors : List Held

pub record Empty (r : Rest) : Type 0 where
  pub timings : r.timings ≡ []
  pub pairs : r.pairs ≡ []
  pub points : r.points ≡ []
  pub descriptors : r.descriptors ≡ []

-- ys, unless there is an entry before them
abbrev pub behind : {A B : Type 0} → List A → List B → List B
behind [] ys = ys
behind (x ∷ xs) ys = []

-- the first of four lists that has an entry, and nothing of the others
abbrev pub first : List DetailedTiming → List StandardTiming → List WhitePoint → List Descriptor → Lists
first ts ps ws ds = four ts (behind ts ps) (behind ts (behind ps ws)) (behind ts (behind ps (behind ws ds)))

-- what slot n takes: the next entries with its number, of one kind, and no more than it holds
unfoldable pub next : ℕ → Rest → Lists
next n r = first (run held_timing n 1 r.timings) (run held_pair n 6 r.pairs) (run held_point n 2 r.points) (run held n 1 r.descriptors)

abbrev pub without : Lists → Rest → Rest
without l r = record {
  timings = drop (length l.timings) r.timings;
  pairs = drop (length l.pairs) r.pairs;
  points = drop (length l.points) r.points;
  descriptors = drop (length l.descriptors) r.descriptors;
}

-- before the slots the eight pairs are taken
abbrev pub eight : Seen → List StandardTiming
eight x = run held_pair 0 8 x.standard

unfoldable pub rest : Seen → ℕ → Rest
rest x zero = record { timings = x.detailed; pairs = drop (length (eight x)) x.standard; points = x.points; descriptors = x.descriptors }
rest x (suc i) = without (next (i + 1) (rest x i)) (rest x i)

-- by slot i, counted from 0
abbrev pub taken : Seen → ℕ → Lists
taken x i = next (i + 1) (rest x i)
