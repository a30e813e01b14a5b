-- Where they are accepted the first slot takes 18 bytes, and a later one 18 as well, but 5 with tag 10, and 23 with some white points; and how much the
-- slots list at the most.
use Rattle.std.specs.Prelude.{ℕ, zero, suc, ◌+◌, ◌*◌, ◌≤◌, ◌≡◌, List, [], ◌∷◌, Bool, true, false, eqb, length, drop, Option, Some, None}
use Rattle.std.proofs.Common.{arith, length-append}
use Rattle.steps.specs.Steps.{done, ◌>>=◌}
use Rattle.steps.specs.Answers.{Ends, ends_then}
use Rattle.crate_timings.specs.Pairs.{pairs}
use Rattle.crate_timings.specs.Sizes.{ends_pairs}
use Rattle.crate_record.specs.declared.DetailedTiming.{DetailedTiming}
use Rattle.crate_detailed.specs.Detailed.{detailed}
use Rattle.crate_detailed.specs.Sizes.{slot_bytes, ends_detailed}
use Rattle.crate_descriptors.specs.Descriptors.{closing, tagged, descriptor}
use Rattle.crate_descriptors.specs.Sizes.{one, takes_closing, longer, left, size, is_nothing, is_white, Says, Tagged, ends_tagged}
use Rattle.crate_descriptors.proofs.Sizes.{exact_descriptor}
use Rattle.crate_descriptors.specs.declared.Points.TheVariants.{One, Two}
use Rattle.crate_descriptors.specs.declared.Slot.{Slot}
use Rattle.crate_descriptors.specs.declared.Slot.TheVariants.{Nothing, Described, White, Six}
use Rattle.crate_slots.specs.Slots.{Said, nothing, timing, standards, points, described, said_by, said_first, said_later, later, slots, lists, together}

-- ---- what decides how many bytes the later slots take

-- a slot of tag 10
abbrev pub ten : Said → Bool
ten nothing = true
ten (timing t) = false
ten (standards xs) = false
ten (points ps) = false
ten (described d) = false

-- one of tag fb, with a first index that is not zero and a second that is
abbrev pub long_points : Said → Bool
long_points nothing = false
long_points (timing t) = false
long_points (standards xs) = false
long_points (points ps) = longer ps
long_points (described d) = false

abbrev pub how_many : (Said → Bool) → List Said → ℕ
how_many f [] = 0
how_many f (x ∷ xs) = one (f x) + how_many f xs

-- no slot is both
at_most_one : (t : Bool) → one t ≤ 1
at_most_one true = omega arith
at_most_one false = omega arith

either : (x : Said) → one (ten x) + one (long_points x) ≤ 1
either nothing = omega arith
either (timing t) = omega arith
either (standards xs) = omega arith
either (points ps) = omega (arith, at_most_one (longer ps))
either (described d) = omega arith

pub no_more : (xs : List Said) → how_many ten xs + how_many long_points xs ≤ length xs
no_more [] = omega arith
no_more (x ∷ xs) = omega (arith, either x, no_more xs)

-- what is counted is what the tags say
abbrev pub is_points : Said → Bool
is_points nothing = false
is_points (timing t) = false
is_points (standards xs) = false
is_points (points ps) = true
is_points (described d) = false

pub counted_by_tag : (tag : ℕ) → Ends (λ x m. (ten x ≡ eqb tag 0x10) × (is_points x ≡ eqb tag 0xfb)) (tagged tag >>= said_by)
counted_by_tag tag = ends_then (tagged tag) said_by (Tagged tag) _ (ends_tagged tag) (λ x m q. by x q.0)
  where
    by : (x : Slot) → Says tag (is_nothing x) (is_white x) → Ends (λ y k. (ten y ≡ eqb tag 0x10) × (is_points y ≡ eqb tag 0xfb)) (said_by x)
    by Nothing q = q
    by (Described d) q = q
    by (White ps) q = q
    by Six q =
        ends_then (pairs 6) _ (λ xs k. (length xs ≤ 6) × (k ≡ 12)) _ (ends_pairs 6)
        (λ xs k r. ends_then (closing 0) _ (λ _ j. (1 ≤ j) × (j ≤ 1)) _ (takes_closing 0) (λ _ j u. q))

-- ---- how much n slots list at the most

pub record Few (n : ℕ) (xs : List Said) : Type 0 where
  pub standards : length (together xs).standards ≤ n * 6
  pub timings : length (together xs).timings ≤ n
  pub points : length (together xs).points ≤ n * 2
  pub descriptors : length (together xs).descriptors ≤ n
  pub slots : length xs ≡ n

one_says : (x : Said) → (length (lists x).timings ≤ 1) × (length (lists x).points ≤ 2) × (length (lists x).descriptors ≤ 1)
one_says nothing = (omega arith, omega arith, omega arith)
one_says (timing t) = (omega arith, omega arith, omega arith)
one_says (standards xs) = (omega arith, omega arith, omega arith)
one_says (points (One p)) = (omega arith, omega arith, omega arith)
one_says (points (Two p q)) = (omega arith, omega arith, omega arith)
one_says (described d) = (omega arith, omega arith, omega arith)

one_more : (n : ℕ) (x : Said) (xs : List Said) → length (lists x).standards ≤ 6 → Few n xs → Few (suc n) (x ∷ xs)
one_more n x xs h f =
    let a = lists x in
    let b = together xs in
    let o = one_says x in
    record {
      standards = omega (arith, length-append a.standards b.standards, f.standards, h);
      timings = omega (arith, length-append a.timings b.timings, f.timings, o.0);
      points = omega (arith, length-append a.points b.points, f.points, o.1);
      descriptors = omega (arith, length-append a.descriptors b.descriptors, f.descriptors, o.2);
      slots = omega (arith, f.slots);
    }

-- a later slot of m bytes
abbrev Slotted : Said → ℕ → Type 0
Slotted x m = (m + 13 * one (ten x) ≡ 18 + 5 * one (long_points x)) × (length (lists x).standards ≤ 6)

ends_by : (x : Slot) (m : ℕ) → m + left x ≡ size x → Ends (λ y k. Slotted y (3 + (m + k))) (said_by x)
ends_by Nothing m e = (omega arith, omega arith)
ends_by (Described d) m e = (omega arith, omega arith)
ends_by (White (One p)) m e = (omega arith, omega arith)
ends_by (White (Two p q)) m e = (omega arith, omega arith)
ends_by Six m e =
    ends_then (pairs 6) _ (λ xs k. (length xs ≤ 6) × (k ≡ 12)) _ (ends_pairs 6)
    (λ xs k r. ends_then (closing 0) _ (λ _ j. (1 ≤ j) × (j ≤ 1)) _ (takes_closing 0) (λ _ j u. (omega (arith, e, r.1, u), r.0)))

ends_later_slot : (t : Option DetailedTiming) → Ends (λ x k. Slotted x (slot_bytes t + k)) (said_later t)
ends_later_slot None = ends_then descriptor said_by (λ x m. m + left x ≡ size x) _ exact_descriptor ends_by
ends_later_slot (Some t) = (omega arith, omega arith)

-- n later slots of m bytes
abbrev Later : ℕ → List Said → ℕ → Type 0
Later n xs m = (m + 13 * how_many ten xs ≡ n * 18 + 5 * how_many long_points xs) × Few n xs

ends_later : (n : ℕ) → Ends (Later n) (later n)
unfolding later
ends_later zero = (omega arith, record { standards = omega arith; timings = omega arith; points = omega arith; descriptors = omega arith; slots = omega arith })
ends_later (suc n) =
    ends_then detailed _ (λ t m. m ≡ slot_bytes t) _ ends_detailed
    (λ t m e. ends_then (said_later t) _ (λ x k. Slotted x (slot_bytes t + k)) _ (ends_later_slot t)
    (λ x k q. ends_then (later n) _ (Later n) _ (ends_later n) (λ xs j r. (omega (arith, e, q.0, r.0), one_more n x xs q.1 r.1))))

-- all four, of m bytes: the first is a timing
pub record Four (xs : List Said) (m : ℕ) : Type 0 where
  pub exactly : m + 13 * how_many ten (drop 1 xs) ≡ 72 + 5 * how_many long_points (drop 1 xs)
  pub slots : length xs ≡ 4
  pub standards : length (together xs).standards ≤ 18
  pub timings : length (together xs).timings ≤ 4
  pub points : length (together xs).points ≤ 6
  pub descriptors : length (together xs).descriptors ≤ 3

ends_first : (t : Option DetailedTiming) (m : ℕ) → m ≡ slot_bytes t → Ends (λ xs k. Four xs (m + k)) (said_first t >>= (λ x. later 3 >>= (λ xs. done (x ∷ xs))))
ends_first None m e = (omega arith, omega arith)
ends_first (Some t) m e =
    ends_then (later 3) _ (Later 3) _ (ends_later 3)
    (λ xs k r.
    record {
      exactly = omega (arith, r.0, e);
      slots = omega (arith, r.1.slots);
      standards = omega (arith, r.1.standards);
      timings = omega (arith, r.1.timings);
      points = r.1.points;
      descriptors = r.1.descriptors;
    })

pub ends_slots : Ends Four slots
unfolding slots
ends_slots = ends_then detailed _ (λ t m. m ≡ slot_bytes t) _ ends_detailed ends_first
