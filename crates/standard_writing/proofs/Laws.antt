-- What the writer's turns come to. Assumes nothing.
use Rattle.std.specs.Prelude.{Option}
use Rattle.std.proofs.Common.{◌≡◌, ℕ, ◌+◌, ◌*◌, ◌%◌, ◌<◌, ◌≤◌, min, Bool, true, false, ◌&&◌, eqb, ltb, leb, List, [], ◌∷◌, ◌++◌, length, get_or, take, drop, set, sym, refl, ap, ◌∙◌, subst, ap₂, true≢false, append_assoc, append-nil, add-one, arith, length-drop, length-set, drop_of_length-le, length-take, take_all, drop-drop, take-suc-set, ltb-true, ne_eqb, eqb-true, le-leb, leb-false, leb-true}
use borrow.Author.Tests.{eqb-false, lt-leb}
use lib.Seq.{paste, take-paste}
use Rattle.bits.specs.Bytes.{part}
use Rattle.fixed.specs.Gather.{gather, gather_more}
use Rattle.sums.specs.Sum.{byte_sum}
use Rattle.sums.specs.Joined.{checksum}
use Rattle.standard_record.specs.Seen.{Seen, seen}
use Rattle.standard_record.specs.Held.{held_point, held_pair, held_timing, held}
use Rattle.standard_record.specs.declared.DetailedTiming.{DetailedTiming}
use Rattle.standard_record.specs.declared.StandardTiming.{StandardTiming}
use Rattle.standard_record.specs.declared.WhitePoint.{WhitePoint}
use Rattle.standard_record.specs.declared.Descriptor.{Descriptor}
use Rattle.standard_record.specs.declared.StandardRecord.{StandardRecord}
use Rattle.standard_parts.specs.declared.Structure.{Structure}
use Rattle.standard_slots.specs.Said.{Lists, four}
use Rattle.write_leaf.specs.Bytes.{Bytes}
use Rattle.write_leaf.specs.Digits.{both_hold}
use Rattle.write_pairs.specs.Run.{run, run_at_most}
use Rattle.write_pairs.specs.Pairs.{most, WritesPairs}
use Rattle.write_slots.specs.Writes.{WritesPoints}
use Rattle.write_block.specs.Taken.{Rest, first, next, without, eight, rest, taken}
use Rattle.write_block.specs.Slots.{either}
use Rattle.write_block.specs.Given.{slot_bytes_lem, slot_holds, used_up, front_reads, eight_read, first_timing}
use Rattle.write_block.specs.Shown.{front_of, shown}
use Rattle.write_block.specs.Gives.{Gives, Written, written, no_block}
use Rattle.write_block.specs.Built.{Fit, body_is, whole, gives}
use Rattle.write_block.specs.Canonical.{block_of}
use Rattle.write_head.specs.Front.{ReadsFront, WritesFront}
use Rattle.write_block.specs.Holds.{structure_from, Holds, WritesSlot, slot_from}
use Rattle.write_block.specs.Leaves.{pairs_slot, slot_pairs, slot_points}
use Rattle.fixed.specs.Gather.{when}
use Rattle.standard_record.specs.declared.HeldPair.{HeldPair}
use Rattle.standard_record.specs.declared.HeldPoint.{HeldPoint}
use Rattle.standard_slots.specs.Said.{of_point}
use Rattle.write_next.specs.Next.{own, two_of}
use Rattle.write_next.specs.Laws.{own_is, two_ahead, none_ahead, some_ahead}
use Rattle.standard_writing.specs.declared.Turn.{Turn}
use Rattle.standard_slots.specs.Answers.{of_points}
use Rattle.standard_slots.specs.declared.Points.{Points}
use Rattle.standard_reading.specs.Slots.{start}
use Rattle.standard_writing.specs.Filled.{FitSoFar, SlotsFit, FrontFit, Filled}
use Rattle.standard_writing.specs.Places.{ahead, Small, Moved, Turned, UsedUp}
use Rattle.standard_writing.specs.declared.Place.{Place}

-- ---- what a slot takes, by what stands at the front of each list

module _ (n : ℕ) (r : Rest) where
  pub next_is : {ts : List DetailedTiming} {ps : List StandardTiming} {ws : List WhitePoint} {ds : List Descriptor}
      → run held_timing n 1 r.timings ≡ ts → run held_pair n 6 r.pairs ≡ ps → run held_point n 2 r.points ≡ ws → run held n 1 r.descriptors ≡ ds
      → next n r ≡ first ts ps ws ds
  unfolding next
  next_is t p w d = λ i. first (t i) (p i) (w i) (d i)

pub most_six : (n : ℕ) → 1 ≤ n → most n ≡ 6
most_six n h = rw (ne_eqb n 0 (omega arith))

pub none_left : {A : Type 0} (xs : List A) → length xs ≤ 0 → xs ≡ []
none_left [] h = refl
none_left (x ∷ xs) h = absurd (omega arith)

pub turned : (σ : Structure) (lent : List ℕ) (at after : Place) (fits : Bool) (bytes : List ℕ) {l m : Lists} → l ≡ m → WritesSlot σ lent m fits bytes → Moved m at after
    → Turned σ lent at after fits bytes l
turned σ lent at after fits bytes e w m = subst (Turned σ lent at after fits bytes) (sym e) (w, m)

-- some pairs
pub some_pairs : (σ : Structure) (lent : List ℕ) (at after : Place) (ps : List StandardTiming) (fits : Bool) (bytes slot : List ℕ) (many : ℕ) → WritesPairs σ ps fits bytes many
    → 0 < many → length ps ≤ 6 → slot ≡ pairs_slot (take 12 bytes) → Moved (four [] ps [] []) at after → (ws : List WhitePoint) (ds : List Descriptor)
    → Turned σ lent at after fits slot (first [] ps ws ds)
some_pairs σ lent at after [] fits bytes slot many w some few e m ws ds = absurd (omega (arith, w.count))
some_pairs σ lent at after (p ∷ ps) fits bytes slot many w some few e m ws ds = (rw e (slot_pairs p ps few σ lent fits bytes many w), m)

pub pairs_turned : (σ : Structure) (lent : List ℕ) (at : Place) (t : Turn) (ps : List StandardTiming) (fits : Bool) (bytes : List ℕ) (many : ℕ) → WritesPairs σ ps fits bytes many
    → 0 < many → length ps ≤ 6 → t.slot.fits ≡ fits → t.slot.bytes ≡ pairs_slot (take 12 bytes)
    → t.after ≡ record { timed = at.timed; listed = at.listed + many; pointed = at.pointed; entered = at.entered }
    → (ws : List WhitePoint) (ds : List Descriptor) → Turned σ lent at t.after t.slot.fits t.slot.bytes (first [] ps ws ds)
pairs_turned σ lent at t ps fits bytes many w some few f b a ws ds =
    subst (λ z. Turned σ lent at t.after z t.slot.bytes (first [] ps ws ds)) (sym f)
    (some_pairs σ lent at t.after ps fits bytes t.slot.bytes many w some few b
    (rw a (record { timed = omega arith; listed = omega (arith, w.count); pointed = omega arith; entered = omega arith })) ws ds)

-- whether there are pairs, by the first of them
module _ (items : List HeldPair) (len k n : ℕ) (whole : length items ≡ 26) (z : HeldPair) where
  first_pair : (t : Bool) → own k len 26 (get_or items (k % 26) z).slot n ≡ t → run held_pair n 1 (drop k (take len items)) ≡ when t (get_or items (k % 26) z).pair
  first_pair t e = sym (own_is held_pair n items len 26 k whole z) ∙ ap (λ b. when b (get_or items (k % 26) z).pair) e

  pub some_pair : own k len 26 (get_or items (k % 26) z).slot n ≡ true → 0 < length (run held_pair n 6 (drop k (take len items)))
  some_pair e = some_ahead held_pair n 5 (drop k (take len items)) (omega (arith, ap length (first_pair true e)))

  pub no_pair : own k len 26 (get_or items (k % 26) z).slot n ≡ false → run held_pair n 6 (drop k (take len items)) ≡ []
  no_pair e = none_ahead held_pair n 6 (drop k (take len items)) (first_pair false e)

-- two points, by each of them
pub points_are : (items : List HeldPoint) (len k n : ℕ) (whole : length items ≡ 6) (z : HeldPoint) (ps : List WhitePoint) (p q : Option WhitePoint)
    → ps ≡ two_of (of_point p) (of_point q)
    → of_point p ≡ when (own k len 6 (get_or items (k % 6) z).slot n) (get_or items (k % 6) z).point
    → of_point q ≡ when (own (k + 1) len 6 (get_or items ((k + 1) % 6) z).slot n) (get_or items ((k + 1) % 6) z).point
    → run held_point n 2 (drop k (take len items)) ≡ ps
points_are items len k n whole z ps p q e ep eq =
    let a = ep ∙ own_is held_point n items len 6 k whole z in
    let b = eq ∙ own_is held_point n items len 6 (k + 1) whole z in
    sym (e ∙ (λ i. two_of (a i) (b i)) ∙ two_ahead held_point n items len k)

pub some_points : (ps : Points) → 0 < length (of_points ps) → (ds : List Descriptor) → first [] [] (of_points ps) ds ≡ four [] [] (of_points ps) []
some_points Points.None h ds = absurd (omega arith)
some_points (Points.One p) h ds = refl
some_points (Points.Two p q) h ds = refl

pub at_most_two : (ps : Points) → length (of_points ps) ≤ 2
at_most_two Points.None = omega arith
at_most_two (Points.One p) = omega arith
at_most_two (Points.Two p q) = omega arith

pub no_entry : (σ : Structure) (lent : List ℕ) (fits : Bool) (t : List ℕ) (ps : Points) → of_points ps ≡ [] → WritesPoints σ ps fits t → WritesSlot σ lent (four [] [] [] []) fits t
no_entry σ lent fits t ps e w = subst (λ l. WritesSlot σ lent (four [] [] l []) fits t) e (slot_points σ lent fits t ps w)

-- ---- the end of a list

pub least_leb : (k len size : ℕ) → k < len → leb size k ≡ leb (min len size) k
least_leb k len size h = go (leb size k) refl
  where
    go : (t : Bool) → leb size k ≡ t → t ≡ leb (min len size) k
    go true e = sym (le-leb (min len size) k (omega (arith, leb-true size k e)))
    go false e = sym (lt-leb (min len size) k (omega (arith, leb-false size k e)))

module _ {A : Type 0} (k len size : ℕ) (items : List A) (whole : length items ≡ size) where
  -- a list has ended exactly where nothing is left of it
  ended_none : leb (min len size) k ≡ true → drop k (take len items) ≡ []
  ended_none h = drop_of_length-le (take len items) {i = k} (omega (arith, leb-true (min len size) k h, length-take len items))

  none_ended : drop k (take len items) ≡ [] → leb (min len size) k ≡ true
  none_ended e = le-leb (min len size) k (omega (arith, length-drop k (take len items), ap length e, length-take len items))

pub all_ended : (r : StandardRecord) (at : Place) → length r.timings.detailed.items ≡ 4 → length r.timings.standard.items ≡ 26
    → length r.color.points.items ≡ 6 → length r.descriptors.items ≡ 3
    → UsedUp (ahead (seen r) at)
    ((leb (min r.timings.detailed.len 4) at.timed && leb (min r.timings.standard.len 26) at.listed)
    && (leb (min r.color.points.len 6) at.pointed && leb (min r.descriptors.len 3) at.entered))
unfolding seen
all_ended r at t p w d = record {
  sound = λ h.
      let l = both_hold _ _ h in
      let a = both_hold _ _ l.0 in
      let b = both_hold _ _ l.1 in
      record {
        timings = ended_none at.timed r.timings.detailed.len 4 r.timings.detailed.items t a.0;
        pairs = ended_none at.listed r.timings.standard.len 26 r.timings.standard.items p a.1;
        points = ended_none at.pointed r.color.points.len 6 r.color.points.items w b.0;
        descriptors = ended_none at.entered r.descriptors.len 3 r.descriptors.items d b.1;
      };
  complete = λ e.
      rw (
        none_ended at.timed r.timings.detailed.len 4 r.timings.detailed.items t e.timings,
        none_ended at.listed r.timings.standard.len 26 r.timings.standard.items p e.pairs,
        none_ended at.pointed r.color.points.len 6 r.color.points.items w e.points,
        none_ended at.entered r.descriptors.len 3 r.descriptors.items d e.descriptors,
      );
}

-- the first slot takes the first timing, if it has its number
pub timings_next : (n : ℕ) (r : Rest) → (next n r).timings ≡ run held_timing n 1 r.timings
unfolding next
timings_next n r = refl

-- ---- the loop over the slots

-- no more than a slot holds
pub record Few (l : Lists) : Type 0 where
  pub timings : length l.timings ≤ 1
  pub pairs : length l.pairs ≤ 6
  pub points : length l.points ≤ 2
  pub descriptors : length l.descriptors ≤ 1

pub next_few : (n : ℕ) (r : Rest) → Few (next n r)
unfolding next
next_few n r =
    let ts = run held_timing n 1 r.timings in
    let ps = run held_pair n 6 r.pairs in
    let ws = run held_point n 2 r.points in
    record {
      timings = run_at_most held_timing n 1 r.timings;
      pairs = either (λ l. length l ≤ 6) ts (omega arith) (run_at_most held_pair n 6 r.pairs);
      points = either (λ l. length l ≤ 2) ts (omega arith) (either (λ l. length l ≤ 2) ps (omega arith) (run_at_most held_point n 2 r.points));
      descriptors = either (λ l. length l ≤ 1) ts (omega arith) (either (λ l. length l ≤ 1) ps (omega arith) (either (λ l. length l ≤ 1) ws (omega arith) (run_at_most held n 1 r.descriptors)));
    }

-- where the lists stand after i slots
pub record After (x : Seen) (i : ℕ) (at : Place) : Type 0 where
  pub left : ahead x at ≡ rest x i
  pub timed : at.timed ≤ i
  pub listed : at.listed ≤ 8 + 6 * i
  pub pointed : at.pointed ≤ 2 * i
  pub entered : at.entered ≤ i

pub small : {x : Seen} {i : ℕ} {at : Place} → i ≤ 4 → After x i at → Small at
small h a = record { timed = omega (arith, a.timed); listed = omega (arith, a.listed); pointed = omega (arith, a.pointed); entered = omega (arith, a.entered) }

pub none_yet : (x : Seen) (at : Place) → at.timed ≡ 0 → at.listed ≡ length (eight x) → at.pointed ≡ 0 → at.entered ≡ 0 → After x 0 at
unfolding rest
none_yet x at t l p e = record {
  left = rw (t, l, p, e);
  timed = omega arith;
  listed = omega (arith, run_at_most held_pair 0 8 x.standard);
  pointed = omega arith;
  entered = omega arith;
}

pub one_slot : (x : Seen) (i : ℕ) (at after : Place) → After x i at → Moved (next (i + 1) (ahead x at)) at after → After x (i + 1) after
unfolding rest
one_slot x i at after a m =
    let l = next (i + 1) (ahead x at) in
    let f = next_few (i + 1) (ahead x at) in
    let past : ahead x after ≡ without l (ahead x at) =
    rw (m.timed, m.listed, m.pointed, m.entered, ← drop-drop (length l.timings) at.timed x.detailed, ← drop-drop (length l.pairs) at.listed x.standard, ← drop-drop (length l.points) at.pointed x.points, ← drop-drop (length l.descriptors) at.entered x.descriptors) in
    record {
      left = past ∙ ap (λ r. without (next (i + 1) r) r) a.left ∙ ap (rest x) (sym (add-one i));
      timed = omega (arith, m.timed, f.timings, a.timed);
      listed = omega (arith, m.listed, f.pairs, a.listed);
      pointed = omega (arith, m.pointed, f.points, a.pointed);
      entered = omega (arith, m.entered, f.descriptors, a.entered);
    }

-- one slot more in the block
pub slot_laid : (block block₀ bytes : List ℕ) (parts : ℕ → List ℕ) (i : ℕ) → length block ≡ 128 → i < 4 → length bytes ≡ 18 → bytes ≡ parts i
    → take (54 + 18 * i) block ≡ take 54 block₀ ++ gather parts i
    → take (54 + 18 * (i + 1)) (paste block (54 + 18 * i) bytes 18) ≡ take 54 block₀ ++ gather parts (i + 1)
slot_laid block block₀ bytes parts i size h eighteen is before =
    let n : 54 + 18 * (i + 1) ≡ 54 + 18 * i + 18 = omega arith in
    ap (λ k. take k (paste block (54 + 18 * i) bytes 18)) n
    ∙ take-paste block (54 + 18 * i) bytes 18 (omega arith) (omega arith)
    ∙ rw (before, take_all 18 bytes (omega arith), is, gather_more parts i) (append_assoc (take 54 block₀) (gather parts i) (parts i))

module _ (r : StandardRecord) (lent : List ℕ) where
  pub none_fit : FitSoFar r lent 0 true
  none_fit = record { sound = λ h i l. absurd (omega arith); complete = λ b g. refl }

  pub one_fits : (i : ℕ) (fits f : Bool) (t : List ℕ) → i < 4 → FitSoFar r lent i fits → WritesSlot (structure_from (seen r)) lent (taken (seen r) i) f t → FitSoFar r lent (i + 1) (fits && f)
  one_fits i fits f t h s w = record {
    sound = λ e j l.
        let b = both_hold fits f e in
        go j (eqb j i) refl (s.sound b.0 j) (subst (λ t. Holds (structure_from (seen r)) lent t (taken (seen r) i)) w.made (w.sound b.1)) l;
    complete = λ b g.
        rw (s.complete b g) (w.complete (part b (start i) 18) (slot_bytes_lem b r lent g i h) (slot_holds b r lent g i h));
  }
    where
      go : (j : ℕ) (z : Bool) → eqb j i ≡ z → (j < i → Holds (structure_from (seen r)) lent (slot_from lent (taken (seen r) j)) (taken (seen r) j))
          → Holds (structure_from (seen r)) lent (slot_from lent (taken (seen r) i)) (taken (seen r) i) → j < i + 1 → Holds (structure_from (seen r)) lent (slot_from lent (taken (seen r) j)) (taken (seen r) j)
      go j true e before here l = rw (eqb-true j i e) here
      go j false e before here l = before (omega (arith, eqb-false j i e))

  pub all_fit : (at : Place) (fits used : Bool) → After (seen r) 4 at → FitSoFar r lent 4 fits → UsedUp (ahead (seen r) at) used → SlotsFit r lent (fits && used)
  all_fit at fits used a s u = record {
    sound = λ e. s.sound (both_hold fits used e).0;
    used = λ e. rw a.left at (u.sound (both_hold fits used e).1);
    complete = λ b g. rw (s.complete b g) (u.complete (rw a.left (used_up b r lent g)));
  }

-- ---- the whole block

-- a part laid behind what stands
pub part_laid : (block p before : List ℕ) (at n : ℕ) → length block ≡ 128 → length p ≡ n → at + n ≤ 128 → take at block ≡ before
    → take (at + n) (paste block at p (length p)) ≡ before ++ p
part_laid block p before at n size is room e =
    ap (λ k. take (at + n) (paste block at p k)) is ∙ take-paste block at p n (omega arith) (omega arith) ∙ ap₂ ◌++◌ e (take_all n p (omega arith))

-- the last two bytes
pub end_laid : (block before : List ℕ) (e v : ℕ) → length block ≡ 128 → take 126 block ≡ before
    → v < 256 → (v + byte_sum (take 127 (set block 126 e))) % 256 ≡ 0
    → set (set block 126 e) 127 v ≡ (before ++ e ∷ []) ++ checksum (before ++ e ∷ []) ∷ []
end_laid block before e v size is small sum =
    let first : take 127 (set block 126 e) ≡ before ++ e ∷ [] = take-suc-set block 126 e (omega arith) ∙ rw is in
    let length-first : length (set block 126 e) ≡ 128 = length-set block 126 e ∙ size in
    let byte : v ≡ checksum (before ++ e ∷ []) = rw (← first) (omega arith) in
    sym (take_all 128 (set (set block 126 e) 127 v) (omega (arith, length-set (set block 126 e) 127 v)))
    ∙ take-suc-set (set block 126 e) 127 v (omega arith)
    ∙ rw (first, ← byte)

pub nested : (f p g e : List ℕ) → ((f ++ p) ++ g) ++ e ≡ f ++ (p ++ (g ++ e))
nested f p g e = append_assoc (f ++ p) g e ∙ append_assoc f p (g ++ e)

module _ (r : StandardRecord) where
  abbrev x : Seen
  x = seen r

  pub front_fits_lem : (ff pf : Bool) (head bytes : List ℕ) (many : ℕ) → WritesFront (front_of x) ff head → WritesPairs (structure_from x) (eight x) pf bytes many → FrontFit r (ff && pf)
  front_fits_lem ff pf head bytes many f p = record {
    front = λ h. subst (λ s. ReadsFront s (front_of x)) f.made (f.sound (both_hold ff pf h).0);
    pairs = λ h. p.sound (both_hold ff pf h).1;
    complete = λ b lent g.
        rw (f.complete b g.bytes (front_reads b r lent g))
        (p.complete (eight_read b r lent g));
  }

  pub block_fits : (lent : List ℕ) (ff sf : Bool) → FrontFit r ff → SlotsFit r lent sf → (ff && (ltb 0 (length (taken x 0).timings) && sf)) ≡ true → Fit r lent
  block_fits lent ff sf f s h =
      let a = both_hold ff _ h in
      let b = both_hold (ltb 0 (length (taken x 0).timings)) sf a.1 in
      record {
        front = f.front a.0;
        pairs = f.pairs a.0;
        slots = s.sound b.1;
        first = ltb-true 0 (length (taken x 0).timings) b.0;
        used = s.used b.1;
      }

  pub given_fits : (lent : List ℕ) (ff sf : Bool) → FrontFit r ff → SlotsFit r lent sf → (b : List ℕ) → Gives b r lent
      → (ff && (ltb 0 (length (taken x 0).timings) && sf)) ≡ true
  given_fits lent ff sf f s b g = rw (f.complete b lent g, (first_timing b r lent g).1) (s.complete b g)

-- ---- the answers

pub done : (r : StandardRecord) (lent before block after : List ℕ) (fits : Bool) → Filled r lent fits block → fits ≡ true → length before ≡ 128
    → after ≡ paste before 0 block (length block) → Bytes after → Written r lent before 0 after
done r lent before block after fits f h size pasted bytes =
    let fit = f.sound h in
    let is : block ≡ block_of (shown lent (seen r)) = f.is ∙ ap (λ s. s ++ checksum s ∷ []) (sym (body_is r lent fit)) in
    let n : length block ≡ 128 = ap length is ∙ whole r lent fit in
    let all : after ≡ block_of (shown lent (seen r)) =
    pasted ∙ ap₂ ◌++◌ (take_all (length block) block (omega arith)) (drop_of_length-le before {i = 0 + length block} (omega arith)) ∙ append-nil block ∙ is in
    written size (subst (λ b. Gives b r lent) (sym all) (gives r lent fit (subst Bytes all bytes))) refl all

pub not_done : (r : StandardRecord) (lent before block : List ℕ) (fits : Bool) → Filled r lent fits block → fits ≡ false → length before ≡ 128 → Written r lent before 11 before
not_done r lent before block fits f h size = no_block size (λ b g. true≢false (sym (f.complete b g) ∙ h)) refl refl
