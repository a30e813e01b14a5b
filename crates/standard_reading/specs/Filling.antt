-- Nothing to believe: how the code fills its lists, and that this comes to those that the block says.
use Rattle.std.specs.Prelude.{ℕ, ◌+◌, ◌<◌, ◌≤◌, ◌≡◌, List, [], ◌++◌, map}
use Rattle.std.proofs.Common.{sym, ap, ◌∙◌, append_assoc, append-nil}
use Rattle.fixed.specs.Fixed.{push, pushed, pushed_fixed}
use Rattle.fixed.specs.Gather.{gather, gather_more}
use Rattle.standard_record.specs.Filler.{blank_white, blank_standard, blank_detailed, blank_held}
use Rattle.standard_record.specs.Held.{held_point, held_pair, held_timing, held}
use Rattle.standard_record.specs.Lists.{StandardTimings, DetailedTimings, white_points, standard_timings, detailed_timings, descriptors}
use Rattle.standard_record.specs.declared.StandardTiming.{StandardTiming}
use Rattle.standard_record.specs.declared.HeldPoint.{HeldPoint}
use Rattle.standard_record.specs.declared.HeldPair.{HeldPair}
use Rattle.standard_record.specs.declared.HeldTiming.{HeldTiming}
use Rattle.standard_record.specs.declared.Held.{Held}
use Rattle.standard_slots.specs.Said.{Said, lists}
use Rattle.standard_reading.specs.declared.Lists.{Lists}
use Rattle.standard_reading.specs.Slots.{said_in}
use Rattle.standard_reading.specs.Block.{timings_of, eight_in, pairs_of, points_of, descriptors_of}

-- pairs of slot n, one after the other
abbrev pub with_pairs : StandardTimings → ℕ → List StandardTiming → StandardTimings
with_pairs l n ps = pushed (push 26) l (map (held_pair.wrap n) ps)

-- the timing of slot n, if that is what it says
abbrev pub with_timings : DetailedTimings → ℕ → Said → DetailedTimings
with_timings l n x = pushed (push 4) l (map (held_timing.wrap n) (lists x).timings)

-- what slot n says, which is x
abbrev pub with_slot : Lists → ℕ → Said → Lists
with_slot a n x = record {
  standard = with_pairs a.standard n (lists x).pairs;
  detailed = with_timings a.detailed n x;
  points = pushed (push 6) a.points (map (held_point.wrap n) (lists x).points);
  descriptors = pushed (push 3) a.descriptors (map (held.wrap n) (lists x).descriptors);
}

-- there is room for what a slot may say
pub record Roomy (a : Lists) : Type 0 where
  pub pairs : a.standard.len + 6 ≤ 26
  pub detailed : a.detailed.len < 4
  pub points : a.points.len + 1 < 6
  pub descriptors : a.descriptors.len < 3

-- those of the first n slots
abbrev pub lists_of : List ℕ → ℕ → Lists
lists_of s n = record {
  standard = standard_timings (pairs_of s n);
  detailed = detailed_timings (timings_of s n);
  points = white_points (points_of s n);
  descriptors = descriptors (descriptors_of s n);
}

module _ (s : List ℕ) where
  -- the eight pairs come first
  pub eight_listed : with_pairs (standard_timings []) 0 (eight_in s) ≡ standard_timings (pairs_of s 0)
  eight_listed =
      let ps = map (held_pair.wrap 0) (eight_in s) in
      pushed_fixed 26 blank_standard [] ps ∙ ap standard_timings (sym (append-nil ps))

  -- one slot more
  pub slot_listed : (i : ℕ) → with_slot (lists_of s i) (i + 1) (said_in s i) ≡ lists_of s (i + 1)
  slot_listed i =
      let eight = map (held_pair.wrap 0) (eight_in s) in
      let ps : ℕ → List HeldPair = λ k. map (held_pair.wrap (k + 1)) (lists (said_in s k)).pairs in
      let ts : ℕ → List HeldTiming = λ k. map (held_timing.wrap (k + 1)) (lists (said_in s k)).timings in
      let ws : ℕ → List HeldPoint = λ k. map (held_point.wrap (k + 1)) (lists (said_in s k)).points in
      let ds : ℕ → List Held = λ k. map (held.wrap (k + 1)) (lists (said_in s k)).descriptors in
      λ j. record {
        standard =
            (pushed_fixed 26 blank_standard (pairs_of s i) (ps i)
            ∙ ap standard_timings (append_assoc eight (gather ps i) (ps i) ∙ ap (λ ys. eight ++ ys) (sym (gather_more ps i)))) j;
        detailed = (pushed_fixed 4 blank_detailed (timings_of s i) (ts i) ∙ ap detailed_timings (sym (gather_more ts i))) j;
        points = (pushed_fixed 6 blank_white (points_of s i) (ws i) ∙ ap white_points (sym (gather_more ws i))) j;
        descriptors = (pushed_fixed 3 blank_held (descriptors_of s i) (ds i) ∙ ap descriptors (sym (gather_more ds i))) j;
      }
