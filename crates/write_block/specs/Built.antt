-- Where all parts of a record fit, its canonical block gives it.
use Rattle.std.specs.Prelude.{ℕ, zero, suc, ◌+◌, ◌<◌, ◌≡◌, List, [], ◌∷◌, ◌++◌, map, length, Ok}
use Rattle.std.proofs.Math.Path.{refl}
use Rattle.std.proofs.Common.{sym, ap, ap₂, ◌∙◌, subst, append-nil, append_assoc, arith, length-append}
use Rattle.std.proofs.lemmas.List.{get_or_at}
use borrow.Author.Tests.{eq-eqb}
use Rattle.bits.specs.Bytes.{◌!◌, part}
use Rattle.fixed.specs.Gather.{gather}
use Rattle.fixed.specs.Numbered.{turns, numbered, told}
use Rattle.sums.specs.Sum.{byte_sum}
use Rattle.sums.specs.Joined.{checksum_makes_zero}
use Rattle.standard_record.specs.Seen.{Seen, seen, shows as holds}
use Rattle.standard_record.specs.Held.{held_pair, held_point, held_timing, held}
use Rattle.standard_record.specs.declared.StandardRecord.{StandardRecord}
use Rattle.standard_record.specs.declared.DetailedTiming.{DetailedTiming}
use Rattle.shared_record.specs.declared.Version.{Version}
use Rattle.standard_parts.specs.Structure.{structure_of}
use Rattle.standard_parts.specs.declared.Structure.{Structure}
use Rattle.standard_head.specs.Head.{structure_in, product_in, colors_in}
use Rattle.standard_verdict.specs.Verdict.{before_slots}
use Rattle.standard_slots.specs.Said.{Said, refusal, nothing, timing, pairs, points, described, lists, pairs_at, said}
use Rattle.standard_reading.specs.Slots.{start, said_in, judge, judged}
use Rattle.standard_reading.specs.Block.{timings_of, eight_in, pairs_of, points_of, descriptors_of, plain}
use Rattle.standard_reading.specs.Judged.{end_is_verdict}
use Rattle.standard_reading.specs.Room.{fits, accepted}
use Rattle.write_leaf.specs.Bytes.{Bytes}
use Rattle.write_pairs.specs.Pairs.{pairs_bytes, All, Back}
use Rattle.write_pairs.specs.Run.{run_at_most}
use Rattle.write_pairs.specs.Laws.{pairs_back}
use Rattle.write_head.specs.Front.{Front, front_bytes, ReadsFront}
use Rattle.write_slots.specs.Words.{SpanInside, words, Entries, entries, these, shows}
use Rattle.write_slots.specs.Slot.{slot_bytes}
use Rattle.write_slots.specs.Laws.{shown_in_block, shown_timing}
use Rattle.write_block.specs.Shown.{shown, worded, held_words, front_of}
use Rattle.write_block.specs.Canonical.{eight_of, slot_of, body, block_of}
use Rattle.write_block.specs.Gives.{Gives}
use Rattle.write_block.specs.Taken.{Empty, eight, rest, taken}
use Rattle.write_block.specs.Holds.{entries_of, structure_from, Holds, slot_from}
use Rattle.write_block.specs.Turns.{gather_same, turns_same, turns_map, all_turns}
use Rattle.write_block.specs.Slots.{all_turns as lists_are}
use Rattle.write_block.specs.Leaves.{pairs_length, pairs_behind}
use Rattle.write_block.specs.Every.{gather_length, block_size, canonical_slot}
use Rattle.write_block.specs.Given.{not_refused, said_timing, said_later_lem}

-- what shows entries is not refused
is_accepted_lem : (s : List ℕ) (x : Said) (at : ℕ) (l : Entries) → shows s x ≡ these l → judge x at ≡ Ok tt
is_accepted_lem s (refusal n) at l e = cc
is_accepted_lem s nothing at l e = refl
is_accepted_lem s (timing d) at l e = refl
is_accepted_lem s (pairs ps) at l e = refl
is_accepted_lem s (points ws) at l e = refl
is_accepted_lem s (described d) at l e = refl

these_one : {l m : Entries} → these l ≡ these m → l ≡ m
these_one e = cc

-- the front is read alike whatever stands behind it
front_reads : (f g : Front) (s : List ℕ) → ReadsFront (front_bytes f) g → ReadsFront (front_bytes f ++ s) g
unfolding front_bytes product_in colors_in
front_reads f g s h = record {
  header = h.header;
  one = h.one;
  product = h.product;
  version = h.version;
  display = h.display;
  basic = h.basic;
  established = h.established;
}

-- ---- the record

-- each part fits, and the lists are used up
pub record Fit (r : StandardRecord) (lent : List ℕ) : Type 0 where
  pub front : ReadsFront (front_bytes (front_of (seen r))) (front_of (seen r))
  pub pairs : All (Back (structure_from (seen r))) (eight (seen r))
  pub slots : (i : ℕ) → i < 4 → Holds (structure_from (seen r)) lent (slot_from lent (taken (seen r) i)) (taken (seen r) i)
  pub first : 0 < length (taken (seen r) 0).timings
  pub used : Empty (rest (seen r) 4)

module _ (r : StandardRecord) (lent : List ℕ) (fit : Fit r lent) where
  abbrev x : Seen
  x = seen r

  abbrev σ : Structure
  σ = structure_from x

  -- the lists are what the slots take
  record Lists : Type 0 where
    timings : x.detailed ≡ turns held_timing (λ i. (taken x i).timings) 4
    pairs : x.standard ≡ map (held_pair.wrap 0) (eight x) ++ turns held_pair (λ i. (taken x i).pairs) 4
    points : x.points ≡ turns held_point (λ i. (taken x i).points) 4
    descriptors : x.descriptors ≡ turns held (λ i. (taken x i).descriptors) 4

  lists_of : Lists
  lists_of =
      let l = lists_are x 4 in
      record {
        timings = l.timings ∙ rw (fit.used.timings, append-nil);
        pairs = l.pairs ∙ rw (fit.used.pairs, append-nil);
        points = l.points ∙ rw (fit.used.points, append-nil);
        descriptors = l.descriptors ∙ rw (fit.used.descriptors, append-nil);
      }

  words_of : map (held_words lent) x.descriptors ≡ turns worded (λ i. map (words lent) (taken x i).descriptors) 4
  words_of = ap (map (held_words lent)) lists_of.descriptors ∙ turns_map held worded (words lent) (held_words lent) (λ h. refl) (λ h. refl) (λ n d. refl) (λ i. (taken x i).descriptors) 4

  -- ---- the block, from what the slots take

  abbrev parts : ℕ → List ℕ
  parts i = slot_from lent (taken x i)

  slot_is : (i : ℕ) → i < 4 → slot_of (shown lent x) (i + 1) ≡ parts i
  slot_is i h =
      let l = lists_of in
      let ts = ap (numbered held_timing (i + 1)) l.timings ∙ (told held_timing [] (λ i. (taken x i).timings) 4).turn i h in
      let ps = ap (numbered held_pair (i + 1)) l.pairs ∙ (told held_pair (eight x) (λ i. (taken x i).pairs) 4).turn i h in
      let ws = ap (numbered held_point (i + 1)) l.points ∙ (told held_point [] (λ i. (taken x i).points) 4).turn i h in
      let ds = ap (numbered worded (i + 1)) words_of ∙ (told worded [] (λ i. map (words lent) (taken x i).descriptors) 4).turn i h in
      λ j. slot_bytes (ts j) (ps j) (ws j) (ds j)

  eight_is : eight_of (shown lent x) ≡ eight x
  eight_is = ap (numbered held_pair 0) lists_of.pairs ∙ (told held_pair (eight x) (λ i. (taken x i).pairs) 4).before

  pub body_is : body (shown lent x) ≡ front_bytes (front_of x) ++ (pairs_bytes 8 (eight x) ++ (gather parts 4 ++ x.extensions ∷ []))
  unfolding body
  body_is =
      let slots = gather_same (λ i. slot_of (shown lent x) (i + 1)) parts 4 slot_is in
      λ j. front_bytes (front_of x) ++ (pairs_bytes 8 (eight_is j) ++ (slots j ++ x.extensions ∷ []))

  abbrev b : List ℕ
  b = block_of (shown lent x)

  -- the body, with anything behind it
  with_rest : (t : List ℕ) → body (shown lent x) ++ t ≡ front_bytes (front_of x) ++ (pairs_bytes 8 (eight x) ++ (gather parts 4 ++ (x.extensions ∷ t)))
  with_rest t = ap (λ s. s ++ t) body_is ∙ simp append_assoc

  part_size : (i : ℕ) → i < 4 → length (parts i) ≡ 18
  part_size i h = (fit.slots i h).reads.size

  front_size : length (front_bytes (front_of x)) ≡ 38
  unfolding front_bytes
  front_size = refl

  slots_size : length (gather parts 4) ≡ 72
  slots_size = gather_length parts 18 4 part_size

  pub whole : length b ≡ 128
  whole = block_size (shown lent x)

  block_slot : (i : ℕ) → i < 4 → part b (start i) 18 ≡ parts i
  block_slot i h = canonical_slot (shown lent x) i h ∙ slot_is i h

  -- ---- what is read of it

  at_slot : (i : ℕ) → i < 4 → shows (parts i) (said σ i (parts i) 0) ≡ these (entries_of lent (taken x i))
  at_slot zero h = go (taken x 0).timings fit.first (fit.slots 0 h).reads.shown
    where
      go : (ts : List DetailedTiming) → 0 < length ts
          → shows (parts 0) (said σ 1 (parts 0) 0) ≡ these (entries ts (taken x 0).pairs (taken x 0).points (map (words lent) (taken x 0).descriptors))
          → shows (parts 0) (said σ 0 (parts 0) 0) ≡ these (entries ts (taken x 0).pairs (taken x 0).points (map (words lent) (taken x 0).descriptors))
      go [] l e = absurd (omega arith)
      go (d ∷ ts) l e = rw (said_timing σ 0 1 (parts 0) 0 (shown_timing σ 1 (parts 0) d ts _ _ _ e).0) e
  at_slot (suc i) h = rw (said_later_lem σ i (parts (suc i)) 0) (fit.slots (suc i) h).reads.shown

  front : ReadsFront b (front_of x)
  front = subst (λ s. ReadsFront s (front_of x)) (sym (with_rest _)) (front_reads (front_of x) (front_of x) _ fit.front)

  structure_is : structure_in b ≡ σ
  structure_is = ap (λ (v : Version). structure_of v.revision) front.version

  in_block : (i : ℕ) → i < 4 → shows b (said_in b i) ≡ these (entries_of lent (taken x i))
  in_block i h = rw structure_is (shown_in_block σ b (start i) i ∙ ap (λ t. shows t (said σ i t 0)) (block_slot i h) ∙ at_slot i h)

  accepted_slot : (i : ℕ) → i < 4 → judge (said_in b i) (start i) ≡ Ok tt
  accepted_slot i h = is_accepted_lem b (said_in b i) (start i) _ (in_block i h)

  said_is : (i : ℕ) → i < 4 → entries_of b (lists (said_in b i)) ≡ entries_of lent (taken x i)
  said_is i h = these_one (sym (not_refused b (said_in b i) (start i) (accepted_slot i h)) ∙ in_block i h)

  verdict : judged b 4 ≡ Ok tt
  unfolding judged before_slots
  verdict =
      rw (
        eq-eqb (length b) 128 whole,
        front.header,
        eq-eqb (byte_sum b) 0 (checksum_makes_zero (body (shown lent x))).1,
        eq-eqb (b ! 18) 1 front.one,
        accepted_slot 0 (omega arith),
        accepted_slot 1 (omega arith),
        accepted_slot 2 (omega arith),
        accepted_slot 3 (omega arith),
      )

  pairs_behind_front : (t : List ℕ) → pairs_at σ (body (shown lent x) ++ t) 38 8 ≡ eight x
  pairs_behind_front t =
      let rest : List ℕ = gather parts 4 ++ (x.extensions ∷ t) in
      ap (λ s. pairs_at σ s 38 8) (with_rest t)
      ∙ ap (λ n. pairs_at σ (front_bytes (front_of x) ++ (pairs_bytes 8 (eight x) ++ rest)) n 8) (sym front_size)
      ∙ pairs_behind σ (front_bytes (front_of x)) (pairs_bytes 8 (eight x) ++ rest) 8
      ∙ pairs_back σ 8 (eight x) rest (run_at_most held_pair 0 8 x.standard) fit.pairs

  pairs_are : eight_in b ≡ eight x
  pairs_are = rw structure_is (pairs_behind_front _)

  last_but_one : (t : List ℕ) → (body (shown lent x) ++ t) ! 126 ≡ x.extensions
  last_but_one t =
      let p : length ((front_bytes (front_of x) ++ pairs_bytes 8 (eight x)) ++ gather parts 4) ≡ 126 =
      omega (
        arith,
        length-append (front_bytes (front_of x) ++ pairs_bytes 8 (eight x)) (gather parts 4),
        length-append (front_bytes (front_of x)) (pairs_bytes 8 (eight x)),
        front_size,
        pairs_length 8 (eight x),
        slots_size,
      ) in
      ap (λ s. s ! 126) (with_rest t ∙ sym (append_assoc (front_bytes (front_of x)) (pairs_bytes 8 (eight x)) (gather parts 4 ++ (x.extensions ∷ t)))
      ∙ sym (append_assoc (front_bytes (front_of x) ++ pairs_bytes 8 (eight x)) (gather parts 4) (x.extensions ∷ t)))
      ∙ get_or_at ((front_bytes (front_of x) ++ pairs_bytes 8 (eight x)) ++ gather parts 4) x.extensions t 0 126 p

  extensions_are : b ! 126 ≡ x.extensions
  extensions_are = last_but_one _

  same : shown b (plain b) ≡ shown lent x
  same =
      let f = front in
      let l = lists_of in
      let e = extensions_are in
      let ts : timings_of b 4 ≡ x.detailed = turns_same held_timing _ _ 4 (λ i h. ap (λ (l : Entries). l.timings) (said_is i h)) ∙ sym l.timings in
      let ps : pairs_of b 4 ≡ x.standard =
      ap₂ ◌++◌ (ap (map (held_pair.wrap 0)) pairs_are) (turns_same held_pair _ _ 4 (λ i h. ap (λ (l : Entries). l.pairs) (said_is i h))) ∙ sym l.pairs in
      let ws : points_of b 4 ≡ x.points = turns_same held_point _ _ 4 (λ i h. ap (λ (l : Entries). l.points) (said_is i h)) ∙ sym l.points in
      let ds : map (held_words b) (descriptors_of b 4) ≡ map (held_words lent) x.descriptors =
      turns_map held worded (words b) (held_words b) (λ h. refl) (λ h. refl) (λ n d. refl) (λ i. (lists (said_in b i)).descriptors) 4
      ∙ turns_same worded _ _ 4 (λ i h. ap (λ (l : Entries). l.descriptors) (said_is i h))
      ∙ sym words_of in
      λ j. record {
        front = record { product = f.product j; version = f.version j; display = f.display j; basic = f.basic j; established = f.established j };
        points = ws j;
        standard = ps j;
        detailed = ts j;
        descriptors = ds j;
        extensions = e j;
      }

  pub gives : Bytes b → Gives b r lent
  gives h =
      let v = end_is_verdict b ∙ verdict in
      record {
        bytes = h;
        accepted = v;
        inside = rw lists_of.descriptors
            (all_turns held (λ d. SpanInside d (length lent)) (λ d. SpanInside d.descriptor (length lent)) (λ n d p. p) (λ i. (taken x i).descriptors) 4 (λ i l. (fit.slots i l).inside));
        same = ap (λ e. shown b (seen e)) (accepted b v) ∙ ap (shown b) (holds (plain b) (fits b)) ∙ same;
      }
