-- Nothing to believe: how the code fills its lists, slot by slot, and that this comes to the lists of what the slots say.
use Rattle.std.specs.Prelude.{ℕ, zero, suc, ◌+◌, ◌-◌, ◌<◌, ◌≤◌, ◌≡◌, refl, false, cond, eqb, List, [], ◌∷◌, ◌++◌, Option, Some, None}
use Rattle.std.proofs.Common.{sym, ap, ◌∙◌, arith, ne_eqb, append_assoc, append-nil}
use Rattle.fixed.specs.Fixed.{push, push_fixed, pushed, pushed_append}
use Rattle.steps.specs.Steps.{Steps, done, refuse, ◌>>=◌, ◌>>◌, map}
use Rattle.steps.specs.Laws.{more, zero_left, then_then, then_same}
use Rattle.crate_record.specs.Filler.{blank_detailed, blank_white, blank_descriptor}
use Rattle.crate_record.specs.Lists.{StandardTimings, DetailedTimings, WhitePoints, MonitorDescriptors, detailed_timings, white_points}
use Rattle.crate_record.specs.Lists as Record
use Rattle.crate_record.specs.declared.DetailedTiming.{DetailedTiming}
use Rattle.crate_record.specs.declared.WhitePoint.{WhitePoint}
use Rattle.crate_record.specs.declared.MonitorDescriptor.{MonitorDescriptor}
use Rattle.crate_timings.specs.Pairs.{pairs, fill_pairs}
use Rattle.crate_timings.specs.Filling.{pairs_pushed}
use Rattle.crate_detailed.specs.Detailed.{detailed}
use Rattle.crate_descriptors.specs.Descriptors.{closing, descriptor}
use Rattle.crate_descriptors.specs.declared.Points.{Points}
use Rattle.crate_descriptors.specs.declared.Points.TheVariants.{One, Two}
use Rattle.crate_descriptors.specs.declared.Slot.{Slot}
use Rattle.crate_descriptors.specs.declared.Slot.TheVariants.{Nothing, Described, White, Six}
use Rattle.crate_slots.specs.declared.Lists.{Lists}
use Rattle.crate_slots.specs.Slots.{Said, nothing, timing, standards, points, described, said_by, said_first, said_later, later, slots, lists, together, lists_after}

-- ---- the programs

-- these standard timings, and nothing else
abbrev pub begun : StandardTimings → Lists
begun a = record { standard = a; detailed = detailed_timings []; points = white_points []; descriptors = Record.descriptors [] }

-- one entry more
abbrev pub timed : Lists → DetailedTiming → Lists
timed a t = record { standard = a.standard; detailed = push 4 a.detailed t; points = a.points; descriptors = a.descriptors }

abbrev pub pointed : Lists → Points → Lists
pointed a (One p) = record { standard = a.standard; detailed = a.detailed; points = push 6 a.points p; descriptors = a.descriptors }
pointed a (Two p q) = record { standard = a.standard; detailed = a.detailed; points = push 6 (push 6 a.points p) q; descriptors = a.descriptors }

abbrev pub entered : Lists → MonitorDescriptor → Lists
entered a d = record { standard = a.standard; detailed = a.detailed; points = a.points; descriptors = push 3 a.descriptors d }

-- after the six pairs of an fa slot
abbrev pub closed : Lists → StandardTimings → Steps Lists
closed a l = do
  closing 0
  done (record { standard = l; detailed = a.detailed; points = a.points; descriptors = a.descriptors })

-- the lists after a descriptor
abbrev pub fill_by : Lists → Slot → Steps Lists
fill_by a Nothing = done a
fill_by a (Described d) = done (entered a d)
fill_by a (White ps) = done (pointed a ps)
fill_by a Six = do
  l ← fill_pairs 6 a.standard
  closed a l

unfoldable pub fill_described : Lists → Steps Lists
fill_described a = do
  x ← descriptor
  fill_by a x

abbrev pub fill_turn : ℕ → Lists → Option DetailedTiming → Steps Lists
fill_turn i a (Some t) = done (timed a t)
fill_turn i a None = cond (eqb i 0) (refuse 3) (fill_described a)

-- the slot i
unfoldable pub fill_slot : ℕ → Lists → Steps Lists
fill_slot i a = do
  t ← detailed
  fill_turn i a t

-- n slots, from i on
unfoldable pub fill_slots : ℕ → ℕ → Lists → Steps Lists
fill_slots zero i a = done a
fill_slots (suc n) i a = do
  b ← fill_slot i a
  fill_slots n (i + 1) b

pub turn : (i : ℕ) (a : Lists) → i < 4 → fill_slots (4 - i) i a ≡ (fill_slot i a >>= fill_slots (4 - (i + 1)) (i + 1))
unfolding fill_slots
turn i a h = ap (λ (n : ℕ). fill_slots n i a) (more 4 i h)

pub no_turn : (i : ℕ) (a : Lists) → 4 ≤ i → fill_slots (4 - i) i a ≡ done a
unfolding fill_slots
no_turn i a h = ap (λ (n : ℕ). fill_slots n i a) (zero_left 4 i h)

-- ---- the same, with what each slot says in between

-- what a slot adds to the lists
abbrev add : Lists → Said → Lists
add a nothing = a
add a (timing t) = timed a t
add a (standards xs) =
    record { standard = pushed (push 26) a.standard xs; detailed = a.detailed; points = a.points; descriptors = a.descriptors }
add a (points ps) = pointed a ps
add a (described d) = entered a d

by_said : (a : Lists) (x : Slot) → fill_by a x ≡ map (add a) (said_by x)
by_said a Nothing = refl
by_said a (Described d) = refl
by_said a (White ps) = refl
by_said a Six =
    ap (λ p. p >>= closed a) (pairs_pushed 6 a.standard)
    ∙ then_then (pairs 6) (λ xs. done (pushed (push 26) a.standard xs)) (closed a)
    ∙ then_same (pairs 6) (λ xs. sym (then_then (closing 0) (λ _. done (standards xs)) (λ x. done (add a x))))
    ∙ sym (then_then (pairs 6) (λ xs. closing 0 >> done (standards xs)) (λ x. done (add a x)))

later_said : (i : ℕ) (a : Lists) → eqb i 0 ≡ false → (t : Option DetailedTiming) → fill_turn i a t ≡ map (add a) (said_later t)
unfolding fill_described
later_said i a h None = rw h (then_same descriptor (by_said a) ∙ sym (then_then descriptor said_by (λ x. done (add a x))))
later_said i a h (Some t) = refl

first_said : (a : Lists) (t : Option DetailedTiming) → fill_turn 0 a t ≡ map (add a) (said_first t)
first_said a None = refl
first_said a (Some t) = refl

-- a slot, and n later ones
turn_said : (i : ℕ) (g : Option DetailedTiming → Steps Said) (a : Lists) (n : ℕ) → ((t : Option DetailedTiming) → fill_turn i a t ≡ map (add a) (g t))
    → ((b : Lists) → fill_slots n (i + 1) b ≡ map (pushed add b) (later n))
    → fill_slots (suc n) i a ≡ map (pushed add a) (detailed >>= (λ t. g t >>= (λ x. later n >>= (λ xs. done (x ∷ xs)))))
unfolding fill_slots fill_slot
turn_said i g a n e h =
    let whole : List Said → Steps Lists = λ xs. done (pushed add a xs) in
    let rest : Said → Steps (List Said) = λ x. later n >>= (λ xs. done (x ∷ xs)) in
    then_then detailed (fill_turn i a) (fill_slots n (i + 1))
    ∙ then_same detailed (λ t.
    ap (λ p. p >>= fill_slots n (i + 1)) (e t) ∙ then_then (g t) (λ x. done (add a x)) (fill_slots n (i + 1))
    ∙ then_same (g t) (λ x. h (add a x) ∙ sym (then_then (later n) (λ xs. done (x ∷ xs)) whole))
    ∙ sym (then_then (g t) rest whole))
    ∙ sym (then_then detailed (λ t. g t >>= rest) whole)

more_said : (n i : ℕ) (a : Lists) → eqb i 0 ≡ false → fill_slots n i a ≡ map (pushed add a) (later n)
unfolding fill_slots later
more_said zero i a h = refl
more_said (suc n) i a h =
    turn_said i said_later a n (later_said i a h) (λ b. more_said n (i + 1) b (ne_eqb _ _ (λ (e : i + 1 ≡ 0). omega (arith, e))))

-- ---- the lists

abbrev four : StandardTimings → DetailedTimings → WhitePoints → MonitorDescriptors → Lists
four s d p m = record { standard = s; detailed = d; points = p; descriptors = m }

abbrev fixed : StandardTimings → List DetailedTiming → List WhitePoint → List MonitorDescriptor → Lists
fixed s d p m = four s (detailed_timings d) (white_points p) (Record.descriptors m)

two_points : (ys : List WhitePoint) (p q : WhitePoint) → push 6 (push 6 (white_points ys) p) q ≡ white_points (ys ++ p ∷ q ∷ [])
two_points ys p q =
    ap (λ l. push 6 l q) (push_fixed 6 blank_white p ys) ∙ push_fixed 6 blank_white q (ys ++ p ∷ [])
    ∙ ap white_points (append_assoc ys (p ∷ []) (q ∷ []))

module _ (s : StandardTimings) (d : List DetailedTiming) (p : List WhitePoint) (m : List MonitorDescriptor) where
  add_fixed : (x : Said)
      → add (fixed s d p m) x ≡ fixed (pushed (push 26) s (lists x).standards) (d ++ (lists x).timings) (p ++ (lists x).points) (m ++ (lists x).descriptors)
  add_fixed nothing = λ i. fixed s (sym (append-nil d) i) (sym (append-nil p) i) (sym (append-nil m) i)
  add_fixed (timing t) = λ i. four s (push_fixed 4 blank_detailed t d i) (white_points (sym (append-nil p) i)) (Record.descriptors (sym (append-nil m) i))
  add_fixed (standards xs) = λ i. fixed (pushed (push 26) s xs) (sym (append-nil d) i) (sym (append-nil p) i) (sym (append-nil m) i)
  add_fixed (points (One w)) = λ i. four s (detailed_timings (sym (append-nil d) i)) (push_fixed 6 blank_white w p i) (Record.descriptors (sym (append-nil m) i))
  add_fixed (points (Two w u)) = λ i. four s (detailed_timings (sym (append-nil d) i)) (two_points p w u i) (Record.descriptors (sym (append-nil m) i))
  add_fixed (described v) = λ i. four s (detailed_timings (sym (append-nil d) i)) (white_points (sym (append-nil p) i)) (push_fixed 3 blank_descriptor v m i)

all_fixed : (s : StandardTimings) (d : List DetailedTiming) (p : List WhitePoint) (m : List MonitorDescriptor) (xs : List Said)
    → pushed add (fixed s d p m) xs
    ≡ fixed (pushed (push 26) s (together xs).standards) (d ++ (together xs).timings) (p ++ (together xs).points) (m ++ (together xs).descriptors)
all_fixed s d p m [] = add_fixed s d p m nothing
all_fixed s d p m (x ∷ xs) =
    let a = lists x in
    let b = together xs in
    ap (λ l. pushed add l xs) (add_fixed s d p m x)
    ∙ all_fixed (pushed (push 26) s a.standards) (d ++ a.timings) (p ++ a.points) (m ++ a.descriptors) xs
    ∙ (λ i. fixed (pushed_append (push 26) s a.standards b.standards i) (append_assoc d a.timings b.timings i)
    (append_assoc p a.points b.points i) (append_assoc m a.descriptors b.descriptors i))

-- the slots after the timings of a, as the code goes through them
pub slots_filled : (a : StandardTimings) → map (lists_after a) slots ≡ fill_slots 4 0 (begun a)
unfolding lists_after slots
slots_filled a =
    sym (turn_said 0 said_first (begun a) 3 (first_said (begun a)) (λ b. more_said 3 1 b refl)
    ∙ then_same slots (λ xs. ap done (all_fixed a [] [] [] xs)))
