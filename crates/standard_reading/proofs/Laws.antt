-- What the proof of the loop over the slots cites: a turn, a refusal, the lists as the code holds them, and the room in them. Assumes nothing.
use Rattle.std.specs.Prelude.{Ok, Err}
use Prim.Native.Nat.{ℕ, zero, suc, ◌+◌, ◌-◌, ◌*◌, ◌≤◌, ◌<◌}
use mathlib.Core.Path.{◌≡◌, refl, ap, ◌∙◌}
use mathlib.Core.List.{List, ◌++◌, map}
use native.Mathlib.Numerals.{add-one}
use native.Mathlib.Omega.{arith}
use lib.ListN.{length, length-append, length-map}
use Rattle.fixed.specs.Fixed.{count_at_most, more_room, push}
use Rattle.fixed.specs.declared.Fixed.{Fixed}
use Rattle.fixed.specs.Gather.{Holds, held_at_most}
use Rattle.steps.specs.declared.Refusal.{Refusal}
use Rattle.standard_record.specs.declared.StandardTiming.{StandardTiming}
use Rattle.standard_record.specs.declared.HeldPair.{HeldPair}
use Rattle.standard_record.specs.Filler.{blank_standard}
use Rattle.standard_record.specs.Held.{held_pair}
use Rattle.standard_parts.specs.declared.Structure.{Structure}
use Rattle.standard_slots.specs.Few.{pairs_at_most}
use Rattle.standard_slots.specs.Said.{refusal, pairs_at, lists}
use Rattle.standard_slots.specs.Answers.{of_slot}
use Rattle.standard_slots.specs.declared.Slot.{Slot}
use Rattle.standard_verdict.specs.Verdict.{refused_at, ◌then◌}
use Rattle.standard_reading.specs.Slots.{start, said_in, judge, judged}
use Rattle.standard_reading.specs.Lists.{ListsOf}
use Rattle.standard_reading.specs.Block.{timings_of, pairs_of, points_of, descriptors_of}
use Rattle.standard_reading.specs.Room.{timings_room, pairs_room, points_room, descriptors_room}
use Rattle.standard_reading.specs.Filling.{Roomy, lists_of}
use Rattle.standard_reading.specs.declared.Lists.{Lists}

-- a refusal stays
pub stays : (s : List ℕ) (f : Refusal) (n : ℕ) → judged s n ≡ Err f → (k : ℕ) → judged s (k + n) ≡ Err f
unfolding judged
stays s f n e zero = let z : 0 + n ≡ n = omega arith in rw z e
stays s f n e (suc k) = let z : suc k + n ≡ suc (k + n) = omega arith in rw z (ap (λ v. v then judge (said_in s (k + n)) (start (k + n))) (stays s f n e k))

-- a slot that is refused decides
pub decides : (s : List ℕ) (i n : ℕ) → judged s i ≡ Ok tt → said_in s i ≡ refusal n → i < 4 → judged s 4 ≡ refused_at n (start i)
unfolding judged
decides s i n p e h =
    let z : 3 - i + suc i ≡ 4 = omega arith in
    rw z at (stays s (record { number = n; at = start i }) (suc i) (rw (p, e)) (3 - i))

-- a slot that is not refused lets the block pass
pub passes : (s : List ℕ) (i : ℕ) (ps : List StandardTiming) (x : Slot) → judged s i ≡ Ok tt → said_in s i ≡ of_slot ps (Ok x) → judged s (i + 1) ≡ Ok tt
unfolding judged
passes s i ps x p e = rw add-one (ap (λ w. w then judge (said_in s i) (start i)) p ∙ ap (λ y. judge y (start i)) e ∙ go x)
  where
    go : (x : Slot) → judge (of_slot ps (Ok x)) (start i) ≡ Ok tt
    go Slot.Nothing = refl
    go (Slot.Timing d) = refl
    go Slot.Pairs = refl
    go (Slot.Points ws) = refl
    go (Slot.Described d) = refl

-- the four slots' lists
pub lists_are : {s : List ℕ} {a : Lists} → length s ≡ 128 → a ≡ lists_of s 4 → ListsOf s a.points a.standard a.detailed a.descriptors
lists_are e h =
    record {
      whole = e;
      points = ap (λ (a : Lists). a.points) h;
      standard = ap (λ (a : Lists). a.standard) h;
      detailed = ap (λ (a : Lists). a.detailed) h;
      described = ap (λ (a : Lists). a.descriptors) h;
    }

-- ---- room: no store asks for it

-- pairs behind those of the first i slots
pub pairs_so_far : (s : List ℕ) (σ : Structure) (t : List ℕ) (i k : ℕ) {st : List HeldPair} {ns : ℕ}
    → Holds 26 blank_standard (pairs_of s i ++ map (held_pair.wrap (i + 1)) (pairs_at σ t 5 k)) st ns → ns ≤ 8 + (i - 1) * 6 + k
pairs_so_far s σ t i k h =
    let w = held_pair.wrap (i + 1) in
    omega (
      arith,
      held_at_most h,
      length-append (pairs_of s i) (map w (pairs_at σ t 5 k)),
      length-map (pairs_at σ t 5 k) w,
      pairs_room s i,
      pairs_at_most σ t 5 k,
    )

-- for one slot more
pub roomy : (s : List ℕ) (i : ℕ) → i < 4 → Roomy (lists_of s i)
roomy s i m =
    record {
      pairs = omega (arith, m, count_at_most 26 (pairs_of s i), pairs_room s i);
      detailed = omega (arith, m, count_at_most 4 (timings_of s i), timings_room s i);
      points = omega (arith, m, count_at_most 6 (points_of s i), points_room s i);
      descriptors = omega (arith, m, count_at_most 3 (descriptors_of s i), descriptors_room s i);
    }

-- a push, for which there is room, makes the list one longer
pub one_longer : {A : Type 0} (n : ℕ) (l : Fixed A n) {l' : Fixed A n} (v : A) → l' ≡ push n l v → l.len < n → l'.len ≡ l.len + 1
unfolding push
one_longer {A} n l v e h = ap (λ (l : Fixed A n). l.len) e ∙ more_room n l.len h

-- what a slot lists of timings does not rest on its pairs
pub timings_alone : (ps qs : List StandardTiming) (x : Slot) → (lists (of_slot ps (Ok x))).timings ≡ (lists (of_slot qs (Ok x))).timings
timings_alone ps qs Slot.Nothing = refl
timings_alone ps qs (Slot.Timing d) = refl
timings_alone ps qs Slot.Pairs = refl
timings_alone ps qs (Slot.Points ws) = refl
timings_alone ps qs (Slot.Described d) = refl
