-- What each slot takes of a record's lists: nothing is lost, and where a block gives the record it is what the block's slot lists.
use Rattle.std.specs.Prelude.{ℕ, suc, ◌+◌, ◌≡◌, length, drop}
use Rattle.std.proofs.Math.Path.{refl, ap}
use Rattle.std.proofs.Common.{sym, ◌∙◌, arith}
use mathlib.Core.List.{List, [], ◌∷◌, ◌++◌, map}
use Rattle.std.proofs.Math.ListN.{length-map}
use Rattle.fixed.specs.Numbered.{Wrapper, turns}
use Rattle.standard_record.specs.Seen.{Seen}
use Rattle.standard_record.specs.Held.{held_point, held_pair, held_timing, held}
use Rattle.standard_record.specs.declared.DetailedTiming.{DetailedTiming}
use Rattle.standard_record.specs.declared.StandardTiming.{StandardTiming}
use Rattle.standard_record.specs.declared.WhitePoint.{WhitePoint}
use Rattle.standard_record.specs.declared.Descriptor.{Descriptor}
use Rattle.standard_slots.specs.Said.{Said, Lists, lists}
use Rattle.standard_slots.specs.Few.{Few, OneKind, one_kind, timings_alone, pairs_alone, points_alone, descriptors_alone}
use Rattle.write_pairs.specs.Run.{run, run_front, run_own}
use Rattle.write_slots.specs.Words.{words, Entries, entries}
use Rattle.write_block.specs.Shown.{worded, held_words}
use Rattle.write_block.specs.Taken.{Rest, behind, first, next, without, eight, rest, taken}
use Rattle.write_block.specs.Holds.{entries_of}
use Rattle.write_block.specs.Turns.{used, later, other_later, drop_own, map_drop, run_map}

-- what holds of nothing and of ys, holds of ys behind xs
pub either : {A B : Type 0} (P : List B → Type 0) (xs : List A) {ys : List B} → P [] → P ys → P (behind xs ys)
either P [] n h = h
either P (x ∷ xs) n h = n

-- the entries xs, numbered n, stand at the front of bs
abbrev AtFront : {A B : Type 0} → Wrapper A B → ℕ → List B → List A → Type 0
AtFront w n bs xs = bs ≡ map (w.wrap n) xs ++ drop (length xs) bs

-- ---- nothing is lost: each list is what the slots took, and what is left

module _ (x : Seen) where
  -- what slot i takes stands at the front of what was left
  pub record Front (i : ℕ) : Type 0 where
    pub timings : (rest x i).timings ≡ map (held_timing.wrap (i + 1)) (taken x i).timings ++ (rest x (suc i)).timings
    pub pairs : (rest x i).pairs ≡ map (held_pair.wrap (i + 1)) (taken x i).pairs ++ (rest x (suc i)).pairs
    pub points : (rest x i).points ≡ map (held_point.wrap (i + 1)) (taken x i).points ++ (rest x (suc i)).points
    pub descriptors : (rest x i).descriptors ≡ map (held.wrap (i + 1)) (taken x i).descriptors ++ (rest x (suc i)).descriptors

  pub front : (i : ℕ) → Front i
  unfolding next rest
  front i =
      let r = rest x i in
      let ts = run held_timing (i + 1) 1 r.timings in
      let ps = run held_pair (i + 1) 6 r.pairs in
      let ws = run held_point (i + 1) 2 r.points in
      record {
        timings = run_front held_timing (i + 1) 1 r.timings;
        pairs = either (AtFront held_pair (i + 1) r.pairs) ts refl (run_front held_pair (i + 1) 6 r.pairs);
        points = either (AtFront held_point (i + 1) r.points) ts refl (either (AtFront held_point (i + 1) r.points) ps refl (run_front held_point (i + 1) 2 r.points));
        descriptors = either (AtFront held (i + 1) r.descriptors) ts refl (either (AtFront held (i + 1) r.descriptors) ps refl (either (AtFront held (i + 1) r.descriptors) ws refl (run_front held (i + 1) 1 r.descriptors)));
      }

  -- so the lists are the turns of the slots, and what is left after n
  pub record Turns (n : ℕ) : Type 0 where
    pub timings : x.detailed ≡ turns held_timing (λ i. (taken x i).timings) n ++ (rest x n).timings
    pub pairs : x.standard ≡ map (held_pair.wrap 0) (eight x) ++ (turns held_pair (λ i. (taken x i).pairs) n ++ (rest x n).pairs)
    pub points : x.points ≡ turns held_point (λ i. (taken x i).points) n ++ (rest x n).points
    pub descriptors : x.descriptors ≡ turns held (λ i. (taken x i).descriptors) n ++ (rest x n).descriptors

  pub all_turns : (n : ℕ) → Turns n
  unfolding rest
  all_turns n = record {
    timings = used held_timing (λ i. (rest x i).timings) (λ i. (taken x i).timings) (λ i. (front i).timings) n;
    pairs =
        run_front held_pair 0 8 x.standard
        ∙ ap (λ l. map (held_pair.wrap 0) (eight x) ++ l) (used held_pair (λ i. (rest x i).pairs) (λ i. (taken x i).pairs) (λ i. (front i).pairs) n);
    points = used held_point (λ i. (rest x i).points) (λ i. (taken x i).points) (λ i. (front i).points) n;
    descriptors = used held (λ i. (rest x i).descriptors) (λ i. (taken x i).descriptors) (λ i. (front i).descriptors) n;
  }

-- ---- where a block's slots list `said i`, those are taken

module _ (lent b : List ℕ) where
  alone_timings : (ts : List DetailedTiming) (ds : List Descriptor) → map (words lent) ds ≡ [] → entries_of lent (first ts [] [] ds) ≡ entries ts [] [] []
  alone_timings [] ds e = ap (entries [] [] []) e
  alone_timings (t ∷ ts) ds e = refl

  alone_pairs : (ps : List StandardTiming) (ds : List Descriptor) → map (words lent) ds ≡ [] → entries_of lent (first [] ps [] ds) ≡ entries [] ps [] []
  alone_pairs [] ds e = ap (entries [] [] []) e
  alone_pairs (p ∷ ps) ds e = refl

  alone_points : (ws : List WhitePoint) (ds : List Descriptor) → map (words lent) ds ≡ [] → entries_of lent (first [] [] ws ds) ≡ entries [] [] ws []
  alone_points [] ds e = ap (entries [] [] []) e
  alone_points (w ∷ ws) ds e = refl

  one : (l : Lists) → OneKind l → (ds : List Descriptor) → map (words lent) ds ≡ map (words b) l.descriptors
      → entries_of lent (first l.timings l.pairs l.points ds) ≡ entries_of b l
  one l (timings_alone p w d) ds e = rw (p, w, d) (alone_timings l.timings ds (rw d at e))
  one l (pairs_alone t w d) ds e = rw (t, w, d) (alone_pairs l.pairs ds (rw d at e))
  one l (points_alone t p d) ds e = rw (t, p, d) (alone_points l.points ds (rw d at e))
  one l (descriptors_alone t p w) ds e = rw (t, p, w) (ap (entries [] [] []) e)

  -- what the slots list from slot i on, k of them, stands in what is left
  pub record Ahead (said : ℕ → Said) (i k : ℕ) (r : Rest) : Type 0 where
    pub timings : r.timings ≡ later held_timing (λ j. (lists (said j)).timings) i k
    pub pairs : r.pairs ≡ later held_pair (λ j. (lists (said j)).pairs) i k
    pub points : r.points ≡ later held_point (λ j. (lists (said j)).points) i k
    pub descriptors : map (held_words lent) r.descriptors ≡ later worded (λ j. map (words b) (lists (said j)).descriptors) i k

  module _ (said : ℕ → Said) (few : (i : ℕ) → Few (said i)) (i k : ℕ) (r : Rest) (a : Ahead said i (suc k) r) where
    pub taken_is : entries_of lent (next (i + 1) r) ≡ entries_of b (lists (said i))
    unfolding next
    taken_is =
        rw (
          a.timings,
          run_own held_timing (i + 1) 1 (lists (said i)).timings _ (few i).timings (other_later held_timing (λ j. (lists (said j)).timings) (i + 1) (suc i) k (omega arith)),
          a.pairs,
          run_own held_pair (i + 1) 6 (lists (said i)).pairs _ (few i).pairs (other_later held_pair (λ j. (lists (said j)).pairs) (i + 1) (suc i) k (omega arith)),
          a.points,
          run_own held_point (i + 1) 2 (lists (said i)).points _ (few i).points (other_later held_point (λ j. (lists (said j)).points) (i + 1) (suc i) k (omega arith)),
        ) (one (lists (said i)) (one_kind (said i)) _ (run_map held worded (words lent) (held_words lent) (λ h. refl) (λ h. refl) (λ n d. refl) (i + 1) 1 r.descriptors
        ∙ rw a.descriptors (run_own worded (i + 1) 1 _ _ (omega (arith, (few i).descriptors, length-map (lists (said i)).descriptors (words b)))
        (other_later worded (λ j. map (words b) (lists (said j)).descriptors) (i + 1) (suc i) k (omega arith)))))

    pub ahead : Ahead said (suc i) k (without (next (i + 1) r) r)
    ahead =
        let e = taken_is in
        record {
          timings = rw (ap (λ (l : Entries). length l.timings) e, a.timings) (drop_own held_timing (i + 1) (lists (said i)).timings _);
          pairs = rw (ap (λ (l : Entries). length l.pairs) e, a.pairs) (drop_own held_pair (i + 1) (lists (said i)).pairs _);
          points = rw (ap (λ (l : Entries). length l.points) e, a.points) (drop_own held_point (i + 1) (lists (said i)).points _);
          descriptors =
              map_drop (held_words lent) (length (next (i + 1) r).descriptors) r.descriptors
              ∙ rw (sym (length-map (next (i + 1) r).descriptors (words lent)) ∙ ap (λ (l : Entries). length l.descriptors) e, a.descriptors)
              (drop_own worded (i + 1) (map (words b) (lists (said i)).descriptors) _);
        }
