-- Where a block gives a record: what each slot takes of the record's lists is what the block's slot shows, and nothing is left.
use Prim.Native.Nat.{ℕ, zero, suc, ◌+◌, ◌-◌, ◌<◌}
use Rattle.std.specs.Prelude.{◌≡◌, refl, length, Ok}
use Rattle.std.proofs.Math.Path.{sym}
use Rattle.std.proofs.Common.{ap, ◌∙◌, length-take, length-drop, ne_eqb}
use mathlib.Core.List.{List, [], ◌∷◌, ◌++◌, map, cons≢nil}
use native.Mathlib.Omega.{arith}
use Rattle.std.proofs.Math.Dec.{eqb-suc-zero}
use Rattle.bits.specs.Bytes.{part}
use Rattle.standard_record.specs.Seen.{Seen, seen, shows as holds}
use Rattle.standard_record.specs.Held.{held_pair, held_point, held_timing, held}
use Rattle.standard_record.specs.declared.StandardRecord.{StandardRecord}
use Rattle.standard_record.specs.declared.DetailedTiming.{DetailedTiming}
use Rattle.standard_record.specs.declared.Descriptor.{Descriptor}
use Rattle.standard_timing.specs.Timing.{clock_in}
use Rattle.standard_head.specs.Head.{structure_in}
use Rattle.standard_verdict.specs.Laws.{has_header, has_version}
use Rattle.standard_parts.specs.Structure.{structure_of}
use Rattle.standard_parts.specs.declared.Structure.{Structure}
use Rattle.standard_slots.specs.Said.{Said, refusal, nothing, timing, pairs, points, described, lists, said}
use Rattle.standard_slots.specs.Few.{Few, pairs_at_most}
use Rattle.standard_slots.proofs.Few.{few}
use Rattle.standard_reading.specs.Slots.{start, said_in, judge}
use Rattle.standard_reading.specs.Block.{eight_in, plain}
use Rattle.standard_reading.specs.Judged.{accepted_before, accepted_slot, accepted_has_128}
use Rattle.standard_reading.specs.Room.{fits, accepted}
use Rattle.write_pairs.specs.Run.{run_own}
use Rattle.write_pairs.specs.Pairs.{All, ReadFrom}
use Rattle.write_pairs.specs.Laws.{all_read}
use Rattle.write_leaf.specs.Bytes.{Bytes}
use Rattle.write_leaf.specs.Again.{part_bytes}
use Rattle.write_head.specs.Front.{Front, ReadsFront}
use Rattle.write_slots.specs.Words.{SpanInside, words, Entries, these, shows}
use Rattle.write_slots.specs.Laws.{shown_in_block, first_slot_timing, shown_timing}
use Rattle.write_block.specs.Shown.{Shown, shown, worded, held_words, front_of}
use Rattle.write_block.specs.Gives.{Gives, SpansInside}
use Rattle.write_block.specs.Taken.{Empty, eight, rest, taken}
use Rattle.write_block.specs.Holds.{entries_of, structure_from, Holds}
use Rattle.write_block.specs.Turns.{turns_later, other_later, drop_own, later, turns_map}
use Rattle.write_block.specs.Slots.{front, Ahead, taken_is, ahead}

-- ---- the first slot and the others

-- a slot with a clock says the same wherever it stands
pub said_timing : (σ : Structure) (i j : ℕ) (t : List ℕ) (at : ℕ) → 0 < clock_in t → said σ i t at ≡ said σ j t at
unfolding said
said_timing σ i j t at h = rw (ne_eqb (clock_in t) 0 (omega arith))

pub said_later_lem : (σ : Structure) (i : ℕ) (t : List ℕ) (at : ℕ) → said σ (suc i) t at ≡ said σ 1 t at
unfolding said
said_later_lem σ i t at = rw (eqb-suc-zero i)

-- as it would in a slot that is not the first
pub shown_later : (σ : Structure) (i : ℕ) (t : List ℕ) (l : Entries) → shows t (said σ i t 0) ≡ these l → shows t (said σ 1 t 0) ≡ these l
shown_later σ zero t l h =
    let f = first_slot_timing σ t l h in
    let c = shown_timing σ 0 t f.0 [] [] [] [] (h ∙ ap these f.1) in
    rw (said_timing σ 1 0 t 0 c.0) h
shown_later σ (suc i) t l h = rw (← said_later_lem σ i t 0) h

-- ---- an accepted block

pub not_refused : (s : List ℕ) (x : Said) (at : ℕ) → judge x at ≡ Ok tt → shows s x ≡ these (entries_of s (lists x))
not_refused s (refusal n) at e = cc
not_refused s nothing at e = refl
not_refused s (timing d) at e = refl
not_refused s (pairs ps) at e = refl
not_refused s (points ws) at e = refl
not_refused s (described d) at e = refl

pub all_split : {A : Type 0} (P : A → Type 0) (xs ys : List A) → All P (xs ++ ys) → All P xs × All P ys
all_split P [] ys h = (tt, h)
all_split P (x ∷ xs) ys h = let r = all_split P xs ys h.1 in ((h.0, r.0), r.1)

map_empty : {A B : Type 0} (f : A → B) (xs : List A) → map f xs ≡ [] → xs ≡ []
map_empty f [] e = refl
map_empty f (x ∷ xs) e = absurd (cons≢nil e)

-- ---- the record that a block gives

module _ (b : List ℕ) (r : StandardRecord) (lent : List ℕ) (g : Gives b r lent) where
  abbrev x : Seen
  x = seen r

  pub same : shown b (plain b) ≡ shown lent x
  same = sym (ap (λ e. shown b (seen e)) (accepted b g.accepted) ∙ ap (shown b) (holds (plain b) (fits b))) ∙ g.same

  -- the record's structure is the block's
  same_structure : structure_in b ≡ structure_from x
  same_structure = ap (λ (s : Shown). structure_of s.front.version.revision) same

  few_in : (i : ℕ) → Few (said_in b i)
  few_in i = few (structure_in b) i (part b (start i) 18) (start i)

  standard_is : x.standard ≡ map (held_pair.wrap 0) (eight_in b) ++ later held_pair (λ i. (lists (said_in b i)).pairs) 0 4
  standard_is = sym (ap (λ (s : Shown). s.standard) same) ∙ ap (λ l. map (held_pair.wrap 0) (eight_in b) ++ l) (turns_later held_pair (λ i. (lists (said_in b i)).pairs) 4)

  eight_is : eight x ≡ eight_in b
  eight_is = rw standard_is (run_own held_pair 0 8 (eight_in b) _ (pairs_at_most (structure_in b) b 38 8) (other_later held_pair (λ i. (lists (said_in b i)).pairs) 0 0 4 (omega arith)))

  pub eight_read : All (ReadFrom (structure_from x)) (eight x)
  eight_read = rw (eight_is, ← same_structure) (all_read (structure_in b) b g.bytes 38 8)

  ahead_of : (i k : ℕ) → i + k ≡ 4 → Ahead lent b (said_in b) i k (rest x i)
  unfolding rest
  ahead_of zero k e =
      let four : k ≡ 4 = omega arith in
      rw four (record {
        timings = sym (ap (λ (s : Shown). s.detailed) same) ∙ turns_later held_timing (λ i. (lists (said_in b i)).timings) 4;
        pairs = rw (eight_is, standard_is) (drop_own held_pair 0 (eight_in b) _);
        points = sym (ap (λ (s : Shown). s.points) same) ∙ turns_later held_point (λ i. (lists (said_in b i)).points) 4;
        descriptors =
            sym (ap (λ (s : Shown). s.descriptors) same)
            ∙ turns_map held worded (words b) (held_words b) (λ h. refl) (λ h. refl) (λ n d. refl) (λ i. (lists (said_in b i)).descriptors) 4
            ∙ turns_later worded (λ i. map (words b) (lists (said_in b i)).descriptors) 4;
      })
  ahead_of (suc i) k e = ahead lent b (said_in b) few_in i k (rest x i) (ahead_of i (suc k) (omega arith))

  all_unwrapped : (n : ℕ) (ds : List Descriptor) → SpansInside (map (held.wrap n) ds) (length lent) → All (λ d. SpanInside d (length lent)) ds
  all_unwrapped n [] h = tt
  all_unwrapped n (d ∷ ds) h = (h.0, all_unwrapped n ds h.1)

  -- nothing is left after four slots
  pub used_up : Empty (rest x 4)
  used_up =
      let a = ahead_of 4 0 (omega arith) in
      record {
        timings = a.timings;
        pairs = a.pairs;
        points = a.points;
        descriptors = map_empty (held_words lent) (rest x 4).descriptors a.descriptors;
      }

  -- the bytes of each slot
  module _ (i : ℕ) (h : i < 4) where
    abbrev slot : List ℕ
    slot = part b (start i) 18

    shown_taken : shows slot (said (structure_in b) i slot 0) ≡ these (entries_of lent (taken x i))
    shown_taken =
        let k : i + suc (3 - i) ≡ 4 = omega arith in
        sym (shown_in_block (structure_in b) b (start i) i)
        ∙ not_refused b (said_in b i) (start i) (accepted_slot b g.accepted i h)
        ∙ ap these (sym (taken_is lent b (said_in b) few_in i (3 - i) (rest x i) (ahead_of i (suc (3 - i)) k)))

    pub slot_bytes_lem : Bytes slot
    slot_bytes_lem = part_bytes b (start i) 18 g.bytes

    pub slot_holds : Holds (structure_from x) lent slot (taken x i)
    unfolding rest
    slot_holds = rw (← same_structure) (record {
      inside = inside_taken;
      reads = record { size = simp (length-take, length-drop) (omega (arith, accepted_has_128 b g.accepted)); shown = shown_later (structure_in b) i slot _ shown_taken };
    })
      where
        inside_rest : (i : ℕ) → SpansInside (rest x i).descriptors (length lent)
        inside_rest zero = g.inside
        inside_rest (suc i) =
            (all_split (λ h. SpanInside h.descriptor (length lent)) (map (held.wrap (i + 1)) (taken x i).descriptors) (rest x (suc i)).descriptors
            (rw (front x i).descriptors at (inside_rest i))).1

        inside_taken : All (λ d. SpanInside d (length lent)) (taken x i).descriptors
        inside_taken =
            all_unwrapped (i + 1) (taken x i).descriptors
            (all_split (λ h. SpanInside h.descriptor (length lent)) (map (held.wrap (i + 1)) (taken x i).descriptors) (rest x (suc i)).descriptors
            (rw (front x i).descriptors at (inside_rest i))).0

  -- the first of them has a timing
  pub first_timing : (d : DetailedTiming) × ((taken x 0).timings ≡ d ∷ [])
  first_timing = let f = first_slot_timing _ _ _ (shown_taken 0 (omega arith)) in (f.0, ap (λ (l : Entries). l.timings) f.1)

  pub front_reads : ReadsFront b (front_of x)
  front_reads =
      let v = accepted_before b g.accepted in
      let f = ap (λ (s : Shown). s.front) same in
      record {
        header = has_header b v;
        one = has_version b v;
        product = ap (λ (f : Front). f.product) f;
        version = ap (λ (f : Front). f.version) f;
        display = ap (λ (f : Front). f.display) f;
        basic = ap (λ (f : Front). f.basic) f;
        established = ap (λ (f : Front). f.established) f;
      }
