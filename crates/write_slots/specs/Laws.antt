-- Laws of what a slot shows, for who puts slots into a block.
use Rattle.std.specs.Prelude.{ℕ, zero, suc, ◌+◌, ◌<◌, ◌≤◌, ◌≡◌, Bool, true, false, cond, eqb, ltb, take, drop, None, Option, Some, Result, Ok, Err}
use Rattle.std.proofs.Math.Path.{refl, ap}
use Rattle.std.proofs.Common.{sym, ◌∙◌, arith, length-take, take-take, drop-drop, ne_eqb}
use mathlib.Core.List.{List, [], ◌∷◌, nil≢cons, head-eq_of_cons-eq}
use Rattle.bits.specs.Bytes.{◌!◌, part}
use Rattle.steps.specs.declared.Span.{Span}
use Rattle.tags.specs.Tags.{tag_of}
use Rattle.tags.specs.declared.Tag.{Tag}
use Rattle.standard_record.specs.declared.DetailedTiming.{DetailedTiming}
use Rattle.standard_record.specs.declared.StandardTiming.{StandardTiming}
use Rattle.standard_record.specs.declared.WhitePoint.{WhitePoint}
use Rattle.standard_record.specs.declared.Descriptor.{Descriptor}
use Rattle.standard_timing.specs.Timing.{clock_in, timing_in}
use Rattle.standard_parts.specs.Descriptors.{closing_refusal, range_refusal, offsets_of, limits_of, secondary_of}
use Rattle.standard_parts.specs.Text.{text_length, all_spaces}
use Rattle.standard_parts.specs.TextEnds.{text_ends}
use Rattle.standard_parts.specs.declared.Structure.{Structure}
use Rattle.standard_slots.specs.Said.{Said, refusal, unless, pairs_at, text_in, text_as, padding_refusal, range_in, raw_of, of_timed, by_tag, said}
use Rattle.write_slots.specs.Words.{other, Words, serial, text, range, name, undefined, maker_defined, bytes_of, secondary, words, Entries, entries, Shows, refused, these, shows}
use Rattle.write_slots.specs.Cases.{told}

-- ---- a slot of a block shows what its 18 bytes show by themselves

part_take : (k n m : ℕ) (l : List ℕ) → k + n ≤ m → take n (drop k (take m l)) ≡ take n (drop k l)
part_take zero n m l h = take-take n m l (omega arith)
part_take (suc k) n zero l h = absurd (omega arith)
part_take (suc k) n (suc m) [] h = refl
part_take (suc k) n (suc m) (x ∷ l) h = part_take k n m l (omega arith)

-- a part of a part
part_part : (b : List ℕ) (at m k n : ℕ) → k + n ≤ m → part (part b at m) k n ≡ part b (at + k) n
part_part b at m k n h = rw (part_take k n m (drop at b) h, drop-drop)

-- two functions agree behind a test where they agree on both its sides
agree : {A B : Type 0} (f g : A → B) (z : Bool) {x y v w : A} → f x ≡ g y → f v ≡ g w → f (cond z x v) ≡ g (cond z y w)
agree f g true h k = h
agree f g false h k = k

-- a single descriptor
abbrev one : Words → Shows
one w = these (entries [] [] [] (w ∷ []))

module _ (σ : Structure) (b : List ℕ) (at : ℕ) where
  abbrev slot : List ℕ
  slot = part b at 18

  -- what is said with spans in the block, and with spans in the slot
  abbrev Alike : Said → Said → Type 0
  Alike x y = shows b x ≡ shows slot y

  span : (k n : ℕ) → k + n ≤ 18 → part b (at + k) n ≡ part slot k n
  span k n h = sym (part_part b at 18 k n h)

  text_span : bytes_of b (text_in slot at) ≡ bytes_of slot (text_in slot 0)
  text_span = span 5 (text_length (part slot 5 13)) (omega (arith, (text_ends (part slot 5 13)).short, length-take 13 (drop 5 slot)))

  -- so they are behind a test
  behind : (r : Result Unit ℕ) (x y : Said) → Alike x y → Alike (unless r x) (unless r y)
  behind (Ok u) x y h = h
  behind (Err n) x y h = refl

  worded : (d : Span → Descriptor) → words b (d (text_in slot at)) ≡ words slot (d (text_in slot 0)) → Alike (text_as d slot at) (text_as d slot 0)
  worded d h = behind (padding_refusal slot (text_length (part slot 5 13))) _ _ (ap one h)

  second_span : (kind b12 b13 b14 b15 b16 b17 : ℕ)
      → secondary b (secondary_of kind b12 b13 b14 b15 b16 b17 (record { start = at + 11; len = 7 }))
      ≡ secondary slot (secondary_of kind b12 b13 b14 b15 b16 b17 (record { start = 11; len = 7 }))
  unfolding secondary_of
  second_span kind b12 b13 b14 b15 b16 b17 =
      agree (secondary b) (secondary slot) (eqb kind 0) refl
      (agree (secondary b) (secondary slot) (eqb kind 2) refl (ap (other kind) (span 11 7 (omega arith))))

  range_span : words b (range_in σ slot at) ≡ words slot (range_in σ slot 0)
  unfolding range_in
  range_span =
      ap (range (limits_of (offsets_of σ (slot ! 4)) (slot ! 5) (slot ! 6) (slot ! 7) (slot ! 8) (slot ! 9)))
      (second_span (slot ! 10) (slot ! 12) (slot ! 13) (slot ! 14) (slot ! 15) (slot ! 16) (slot ! 17))

  raw_span : words b (raw_of (slot ! 3) (record { start = at + 5; len = 13 })) ≡ words slot (raw_of (slot ! 3) (record { start = 5; len = 13 }))
  raw_span =
      let h = span 5 13 (omega arith) in
      agree (words b) (words slot) (ltb (slot ! 3) 0x10) (ap (maker_defined (slot ! 3)) h) (ap (undefined (slot ! 3)) h)

  by_tag_lem : (tag : Tag) → Alike (by_tag σ tag slot at) (by_tag σ tag slot 0)
  by_tag_lem Tag.Dummy = refl
  by_tag_lem Tag.Pairs = behind (closing_refusal (slot ! 17) true) _ _ refl
  by_tag_lem Tag.Points = behind (closing_refusal (slot ! 15) (all_spaces (part slot 16 2))) _ _ refl
  by_tag_lem Tag.Name = worded Descriptor.Name (ap name text_span)
  by_tag_lem Tag.Range = behind (range_refusal (slot ! 10) (slot ! 11) (all_spaces (part slot 12 6))) _ _ (ap one range_span)
  by_tag_lem Tag.Text = worded Descriptor.Text (ap text text_span)
  by_tag_lem Tag.Serial = worded Descriptor.Serial (ap serial text_span)
  by_tag_lem Tag.Raw = ap one raw_span

  by_timing : (x : Option DetailedTiming) → Alike (of_timed x) (of_timed x)
  by_timing (Some d) = refl
  by_timing None = refl

  pub shown_in_block : (i : ℕ) → shows b (said σ i (part b at 18) at) ≡ shows (part b at 18) (said σ i (part b at 18) 0)
  unfolding said
  shown_in_block i =
      agree (shows b) (shows slot) (eqb (clock_in slot) 0)
      (agree (shows b) (shows slot) (eqb i 0) refl (by_tag_lem (tag_of (slot ! 3))))
      (by_timing (timing_in slot))

-- ---- timings

pub timing_shown : (σ : Structure) (i : ℕ) (t : List ℕ) (d : DetailedTiming) → 0 < clock_in t → timing_in t ≡ Some d
    → shows t (said σ i t 0) ≡ these (entries (d ∷ []) [] [] [])
unfolding said
timing_shown σ i t d h e = rw (ne_eqb (clock_in t) 0 (omega arith), e)

abbrev timings_of : Shows → List DetailedTiming
timings_of refused = []
timings_of (these l) = l.timings

pub shown_timing : (σ : Structure) (i : ℕ) (t : List ℕ) (d : DetailedTiming) (ts : List DetailedTiming) (ps : List StandardTiming) (ws : List WhitePoint) (ds : List Words)
    → shows t (said σ i t 0) ≡ these (entries (d ∷ ts) ps ws ds) → (0 < clock_in t) × (timing_in t ≡ Some d)
shown_timing σ i t d ts ps ws ds h =
    told (λ x. timings_of (shows t x) ≡ d ∷ ts → (0 < clock_in t) × (timing_in t ≡ Some d)) σ t 0 (record {
      refused = λ n e. absurd (nil≢cons e);
      none = λ e. absurd (nil≢cons e);
      timed = λ d l p e. (l, p ∙ ap Some (head-eq_of_cons-eq e));
      listed = λ e. absurd (nil≢cons e);
      pointed = λ e. absurd (nil≢cons e);
      name = λ p e. absurd (nil≢cons e);
      text = λ p e. absurd (nil≢cons e);
      serial = λ p e. absurd (nil≢cons e);
      range = λ e. absurd (nil≢cons e);
      raw = λ p e. absurd (nil≢cons e);
    }) i (ap timings_of h)

-- the first slot shows a timing, if it is not refused
pub first_slot_timing : (σ : Structure) (t : List ℕ) (l : Entries) → shows t (said σ 0 t 0) ≡ these l → (d : DetailedTiming) × (l ≡ entries (d ∷ []) [] [] [])
unfolding said
first_slot_timing σ t l h = go (eqb (clock_in t) 0) (timing_in t) h
  where
    go : (z : Bool) (x : Option DetailedTiming) → shows t (cond z (refusal 3) (of_timed x)) ≡ these l → (d : DetailedTiming) × (l ≡ entries (d ∷ []) [] [] [])
    go true x h = let z : ◌≡◌ {A = ℕ} 0 1 = cc in absurd (omega arith)
    go false (Some d) h = (d, cc)
    go false None h = let z : ◌≡◌ {A = ℕ} 0 1 = cc in absurd (omega arith)

-- ---- pairs

pub pairs_shown : (σ : Structure) (t : List ℕ) → clock_in t ≡ 0 → t ! 3 ≡ 0xfa → t ! 17 ≡ 0x0a → shows t (said σ 1 t 0) ≡ these (entries [] (pairs_at σ t 5 6) [] [])
unfolding said closing_refusal tag_of
pairs_shown σ t clock tag last = rw (clock, tag, last)

abbrev pairs_of : Shows → List StandardTiming
pairs_of refused = []
pairs_of (these l) = l.pairs

pub shown_pairs : (σ : Structure) (i : ℕ) (t : List ℕ) (p : StandardTiming) (ps : List StandardTiming) (ts : List DetailedTiming) (ws : List WhitePoint) (ds : List Words)
    → shows t (said σ i t 0) ≡ these (entries ts (p ∷ ps) ws ds) → pairs_at σ t 5 6 ≡ p ∷ ps
shown_pairs σ i t p ps ts ws ds h =
    told (λ x. pairs_of (shows t x) ≡ p ∷ ps → pairs_at σ t 5 6 ≡ p ∷ ps) σ t 0 (record {
      refused = λ n e. absurd (nil≢cons e);
      none = λ e. absurd (nil≢cons e);
      timed = λ d l q e. absurd (nil≢cons e);
      listed = λ e. e;
      pointed = λ e. absurd (nil≢cons e);
      name = λ q e. absurd (nil≢cons e);
      text = λ q e. absurd (nil≢cons e);
      serial = λ q e. absurd (nil≢cons e);
      range = λ e. absurd (nil≢cons e);
      raw = λ q e. absurd (nil≢cons e);
    }) i (ap pairs_of h)
