-- The turns of the loop over a run of pairs. Assumes nothing.
use Prim.Native.Nat.{ℕ, zero, suc, ◌+◌, ◌*◌, ◌<◌, ◌≤◌, min}
use mathlib.Core.Path.{◌≡◌, refl, sym, ap}
use mathlib.Core.Bool.{Bool, true, false, ◌&&◌, not}
use mathlib.Core.List.{List, [], ◌∷◌, ◌++◌}
use native.Mathlib.Nat.{zero-min, suc-min-suc}
use native.Mathlib.Omega.{arith}
use lib.ListN.{length, get_or, take, drop, set, replicate, length-append, length-take, length-drop, drop_of_length-le}
use lib.Seq.{drop-cons, drop-drop, take-nil, get_or-take, get_or-drop}
use Rattle.standard_record.specs.Held.{held_pair}
use Rattle.standard_record.specs.declared.HeldPair.{HeldPair}
use Rattle.standard_record.specs.declared.StandardTiming.{StandardTiming}
use Rattle.standard_record.specs.Lists.{StandardTimings}
use Rattle.standard_parts.specs.declared.Structure.{Structure}
use Rattle.write_leaf.specs.Digits.{both_hold}
use Rattle.write_parts.specs.Pair.{pair_low, pair_high, WritesPair}
use Rattle.write_pairs.specs.Run.{run, Other, run_more, run_stops}
use Rattle.write_pairs.specs.Pairs.{pairs_bytes, most, pairs_ahead, All, ReadFrom, Back, WritesPairs}
use Rattle.write_pairs.specs.Laws.{all_append}

pub take_least : {A : Type 0} (k n : ℕ) (xs : List A) → length xs ≡ n → take (min k n) xs ≡ take k xs
take_least zero n xs e = rw (zero-min n)
take_least (suc k) n [] e = take-nil (min (suc k) n)
take_least (suc k) zero (x ∷ xs) e = absurd (omega arith)
take_least (suc k) (suc n) (x ∷ xs) e = rw (suc-min-suc k n) (ap (λ l. x ∷ l) (take_least k n xs (omega arith)))

-- one pair more, behind those that stand
more_bytes : (n : ℕ) (ps : List StandardTiming) (p : StandardTiming) → length ps < n
    → pairs_bytes n (ps ++ p ∷ []) ≡ set (set (pairs_bytes n ps) (2 * length ps) (pair_low p)) (2 * length ps + 1) (pair_high p)
more_bytes zero ps p h = absurd (omega arith)
more_bytes (suc n) [] p h = refl
more_bytes (suc n) (q ∷ ps) p h =
    let e : 2 * suc (length ps) ≡ suc (suc (2 * length ps)) = omega arith in
    let f : suc (suc (2 * length ps)) + 1 ≡ suc (suc (2 * length ps + 1)) = omega arith in
    rw (e, f) (ap (λ t. pair_low q ∷ pair_high q ∷ t) (more_bytes n ps p (omega arith)))

pub is_not : (b : Bool) → not b ≡ true → b ≡ false
is_not true h = sym h
is_not false h = refl

pub is_so : (b : Bool) → not b ≡ false → b ≡ true
is_so true h = refl
is_so false h = sym h

last_of : {A : Type 0} (P : A → Type 0) (xs : List A) (x : A) → All P (xs ++ x ∷ []) → All P xs × P x
last_of P [] x h = (tt, h.0)
last_of P (y ∷ xs) x h = let r = last_of P xs x h.1 in ((h.0, r.0), r.1)

-- a run of pairs, and one more
module _ (σ : Structure) (ps : List StandardTiming) (fits : Bool) (bytes : List ℕ) (many : ℕ) (w : WritesPairs σ ps fits bytes many) where
  pub and_one : (p : StandardTiming) (f : Bool) (a b : ℕ) → WritesPair σ p f (a, b) → many < 8
      → WritesPairs σ (ps ++ p ∷ []) (fits && f) (set (set bytes (2 * many) a) (2 * many + 1) b) (many + 1)
  and_one p f a b v room =
      let is : ◌≡◌ {A = ℕ × ℕ} (a, b) (pair_low p, pair_high p) = v.made in
      let e = ap (λ (s : ℕ × ℕ). s.0) is in
      let g = ap (λ (s : ℕ × ℕ). s.1) is in
      record {
        made = rw (w.made, w.count, e, g) (sym (more_bytes 8 ps p (omega (arith, w.count))));
        sound = λ h.
            let t = both_hold fits f h in
            let r : Back σ p = rw (e, g) at (v.sound t.1) in
            all_append (Back σ) ps (p ∷ []) (w.sound t.0) (r, tt);
        complete = λ h.
            let t = last_of (ReadFrom σ) ps p h in
            let r = t.1 in
            rw (w.complete t.0) (v.complete (r.first, r.second) (r.first_is_byte, r.second_is_byte) r.read);
        count = omega (arith, w.count, length-append ps (p ∷ []));
      }

-- what the loop holds after `many` turns, over the entries from its start on
pub record SoFar (σ : Structure) (xs : List HeldPair) (number many : ℕ) (fits : Bool) (bytes : List ℕ) : Type 0 where
  pub all : length (run held_pair number many xs) ≡ many
  pub writes : WritesPairs σ (run held_pair number many xs) fits bytes many

pub begun : (σ : Structure) (xs : List HeldPair) (number : ℕ) → SoFar σ xs number 0 true (replicate 16 1)
begun σ xs number = record { all = refl; writes = record { made = refl; sound = λ h. tt; complete = λ h. refl; count = refl } }

module _ {σ : Structure} {xs : List HeldPair} {number many : ℕ} {fits : Bool} {bytes : List ℕ} (s : SoFar σ xs number many fits bytes) where
  pub one_more : (z : HeldPair) → many < length xs → many < 8 → (get_or xs many z).slot ≡ number
      → (f : Bool) (a b : ℕ) → WritesPair σ (get_or xs many z).pair f (a, b)
      → SoFar σ xs number (many + 1) (fits && f) (set (set bytes (2 * many) a) (2 * many + 1) b)
  one_more z h room own f a b v =
      let e : many + 1 ≡ suc many = omega arith in
      let more = run_more held_pair number many xs z s.all h own in
      rw e (record {
        all = rw more (omega (arith, length-append (run held_pair number many xs) ((get_or xs many z).pair ∷ []), s.all));
        writes = rw more (rw e at (and_one σ (run held_pair number many xs) fits bytes many s.writes (get_or xs many z).pair f a b v room));
      })

  pub stops : (k : ℕ) → many ≤ k → Other held_pair number (drop many xs) → WritesPairs σ (run held_pair number k xs) fits bytes many
  stops k h o = rw (run_stops held_pair number many k xs s.all h o) s.writes

  pub full : (k : ℕ) → many ≡ k → WritesPairs σ (run held_pair number k xs) fits bytes many
  full k e = rw (← e) s.writes

-- the entry at hand, k places on: there is none, or it is the first of what is left
module _ (items : List HeldPair) (from end many k number : ℕ) (is : k ≡ from + many) where
  pub none_left : end ≤ k → Other held_pair number (drop many (drop from (take end items)))
  none_left h = rw (drop-drop, ← is, drop_of_length-le (take end items) {i = k} (omega (arith, length-take end items))) tt

  module _ (z : HeldPair) (room : k < end) (whole : end ≤ length items) where
    pub in_list : many < length (drop from (take end items))
    in_list = omega (arith, length-drop from (take end items), length-take end items)

    pub is_at : get_or (drop from (take end items)) many z ≡ get_or items k z
    is_at = rw (get_or-drop from (take end items) many z, ← is, get_or-take end items k z room)

    pub another : ((get_or items k z).slot ≡ number → ⊥) → Other held_pair number (drop many (drop from (take end items)))
    another h = rw (drop-cons (drop from (take end items)) many z in_list, is_at) h

-- the run that the loop has stopped at is the one that is asked for
pub asked : (σ : Structure) (list : StandardTimings) (from number : ℕ) (fits : Bool) (bytes : List ℕ) (many : ℕ) → length list.items ≡ 26
    → (end : ℕ) → end ≡ min list.len 26 → (limit : ℕ) → limit ≡ most number
    → WritesPairs σ (run held_pair number limit (drop from (take end list.items))) fits bytes many
    → WritesPairs σ (pairs_ahead list from number) fits bytes many
asked σ list from number fits bytes many size end e limit l w = rw (← take_least list.len 26 list.items size, ← e, ← l) w
