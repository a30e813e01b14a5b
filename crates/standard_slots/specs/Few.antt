-- How much a slot lists at the most, that it is of one kind, and that the first lists a timing or nothing.
use Rattle.std.specs.Prelude.{ℕ, ◌+◌, ◌*◌, ◌≤◌, ◌≡◌, refl, Bool, true, false, cond, List, [], ◌++◌, eqb, length, None, Option, Some}
use Rattle.std.proofs.Common.{arith, length-append}
use Rattle.bits.specs.Bytes.{◌!◌}
use Rattle.fixed.specs.Gather.{gather_at_most}
use Rattle.standard_record.specs.declared.DetailedTiming.{DetailedTiming}
use Rattle.standard_record.specs.declared.StandardTiming.{StandardTiming}
use Rattle.standard_record.specs.declared.WhitePoint.{WhitePoint}
use Rattle.standard_timing.specs.Timing.{clock_in, timing_in}
use Rattle.standard_parts.specs.Timings.{pair_of}
use Rattle.standard_parts.specs.declared.Structure.{Structure}
use Rattle.standard_slots.specs.Said.{Said, refusal, nothing, timing, pairs, points, described, Lists, lists, of_pair, pair_at, pairs_at, of_point, of_timed, said}

-- no more than this
pub record Few (x : Said) : Type 0 where
  pub timings : length (lists x).timings ≤ 1
  pub pairs : length (lists x).pairs ≤ 6
  pub points : length (lists x).points ≤ 2
  pub descriptors : length (lists x).descriptors ≤ 1

-- ---- the parts

pair_at_most : (p : Option StandardTiming) → length (of_pair p) ≤ 1
pair_at_most (Some v) = omega arith
pair_at_most None = omega arith

-- n pairs at the most
pub pairs_at_most : (σ : Structure) (s : List ℕ) (k n : ℕ) → length (pairs_at σ s k n) ≤ n
pairs_at_most σ s k n =
    omega (arith, gather_at_most (λ i. pair_at σ s (k + 2 * i)) 1 (λ i. pair_at_most (pair_of σ (s ! (k + 2 * i)) (s ! (k + 2 * i + 1)))) n)

point_at_most : (p : Option WhitePoint) → length (of_point p) ≤ 1
point_at_most (Some v) = omega arith
point_at_most None = omega arith

pub points_at_most : (p q : Option WhitePoint) → length (of_point p ++ of_point q) ≤ 2
points_at_most p q = omega (arith, length-append (of_point p) (of_point q), point_at_most p, point_at_most q)

-- ---- a slot feeds one list at most

-- at least three of the four are empty
pub data OneKind (x : Lists) : Type 0 where
  timings_alone : x.pairs ≡ [] → x.points ≡ [] → x.descriptors ≡ [] → OneKind x
  pairs_alone : x.timings ≡ [] → x.points ≡ [] → x.descriptors ≡ [] → OneKind x
  points_alone : x.timings ≡ [] → x.pairs ≡ [] → x.descriptors ≡ [] → OneKind x
  descriptors_alone : x.timings ≡ [] → x.pairs ≡ [] → x.points ≡ [] → OneKind x

pub one_kind : (x : Said) → OneKind (lists x)
one_kind (refusal n) = timings_alone refl refl refl
one_kind nothing = timings_alone refl refl refl
one_kind (timing d) = timings_alone refl refl refl
one_kind (pairs ps) = pairs_alone refl refl refl
one_kind (points ws) = points_alone refl refl refl
one_kind (described d) = descriptors_alone refl refl refl

-- ---- the first slot is a timing, or refused

-- timings at the most
pub record NoneButTimings (x : Said) : Type 0 where
  pub pairs : (lists x).pairs ≡ []
  pub points : (lists x).points ≡ []
  pub descriptors : (lists x).descriptors ≡ []

pub first_slot : (σ : Structure) (t : List ℕ) (at : ℕ) → NoneButTimings (said σ 0 t at)
unfolding said
first_slot σ t at = go (eqb (clock_in t) 0) (timing_in t)
  where
    go : (b : Bool) (x : Option DetailedTiming) → NoneButTimings (cond b (refusal 3) (of_timed x))
    go true x = record { pairs = refl; points = refl; descriptors = refl }
    go false (Some d) = record { pairs = refl; points = refl; descriptors = refl }
    go false None = record { pairs = refl; points = refl; descriptors = refl }
