-- The entries by the number of their slot. That of slot i, counted from 0, is i + 1; the eight pairs at offset 38 have 0.
use Rattle.std.specs.Prelude.{ℕ, ◌+◌, ◌<◌, ◌≤◌, ◌≡◌, List, []}
use Rattle.std.proofs.Common.{ap}
use Rattle.fixed.specs.Numbered.{numbered, NeverFalls, Told, told, known_by_numbers}
use Rattle.standard_record.specs.Held.{held_point, held_pair, held_timing, held}
use Rattle.standard_record.specs.Seen.{Seen}
use Rattle.standard_slots.specs.Said.{Lists, four, lists}
use Rattle.standard_reading.specs.Slots.{said_in}
use Rattle.standard_reading.specs.Block.{timings_of, eight_in, pairs_of, points_of, descriptors_of, plain}

-- those numbered n, list by list and without the number
abbrev pub entries : ℕ → Seen → Lists
entries n x =
    four (numbered held_timing n x.detailed) (numbered held_pair n x.standard) (numbered held_point n x.points) (numbered held n x.descriptors)

-- along each list the numbers never fall, from 0 up to 4
pub record AllNeverFall (x : Seen) : Type 0 where
  pub timings : NeverFalls held_timing 0 4 x.detailed
  pub pairs : NeverFalls held_pair 0 4 x.standard
  pub points : NeverFalls held_point 0 4 x.points
  pub descriptors : NeverFalls held 0 4 x.descriptors

-- ---- of every block

module _ (s : List ℕ) where
  timings_told : Told held_timing [] (λ i. (lists (said_in s i)).timings) 4 (timings_of s 4)
  timings_told = told held_timing [] (λ i. (lists (said_in s i)).timings) 4

  pairs_told : Told held_pair (eight_in s) (λ i. (lists (said_in s i)).pairs) 4 (pairs_of s 4)
  pairs_told = told held_pair (eight_in s) (λ i. (lists (said_in s i)).pairs) 4

  points_told : Told held_point [] (λ i. (lists (said_in s i)).points) 4 (points_of s 4)
  points_told = told held_point [] (λ i. (lists (said_in s i)).points) 4

  descriptors_told : Told held [] (λ i. (lists (said_in s i)).descriptors) 4 (descriptors_of s 4)
  descriptors_told = told held [] (λ i. (lists (said_in s i)).descriptors) 4

  pub never_fall : AllNeverFall (plain s)
  never_fall = record {
    timings = timings_told.never_falls;
    pairs = pairs_told.never_falls;
    points = points_told.never_falls;
    descriptors = descriptors_told.never_falls;
  }

  -- the entries numbered 0 are the eight pairs
  pub entries_0 : entries 0 (plain s) ≡ four [] (eight_in s) [] []
  entries_0 j = four (timings_told.before j) (pairs_told.before j) (points_told.before j) (descriptors_told.before j)

  -- the entries numbered i + 1 are what slot i says
  pub entries_of_slot : (i : ℕ) → i < 4 → entries (i + 1) (plain s) ≡ lists (said_in s i)
  entries_of_slot i h j = four (timings_told.turn i h j) (pairs_told.turn i h j) (points_told.turn i h j) (descriptors_told.turn i h j)

-- ---- of any two records

pub record SameEntries (x y : Seen) : Type 0 where
  pub timings : x.detailed ≡ y.detailed
  pub pairs : x.standard ≡ y.standard
  pub points : x.points ≡ y.points
  pub descriptors : x.descriptors ≡ y.descriptors

-- whose numbers never fall: the entries with each number make the lists
pub known_by_entries : (x y : Seen) → AllNeverFall x → AllNeverFall y → ((n : ℕ) → n ≤ 4 → entries n x ≡ entries n y) → SameEntries x y
known_by_entries x y r q h =
    record {
      timings = known_by_numbers held_timing 4 0 x.detailed y.detailed r.timings q.timings (λ n l u. ap (λ e. e.timings) (h n u));
      pairs = known_by_numbers held_pair 4 0 x.standard y.standard r.pairs q.pairs (λ n l u. ap (λ e. e.pairs) (h n u));
      points = known_by_numbers held_point 4 0 x.points y.points r.points q.points (λ n l u. ap (λ e. e.points) (h n u));
      descriptors =
          known_by_numbers held 4 0 x.descriptors y.descriptors r.descriptors q.descriptors (λ n l u. ap (λ e. e.descriptors) (h n u));
    }
