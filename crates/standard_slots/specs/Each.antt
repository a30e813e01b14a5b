-- What holds of every answer that a slot may give holds of what it says: one law, which each fact of a slot cites.
use Rattle.std.specs.Prelude.{ℕ, ◌+◌, ◌≤◌, Bool, true, false, cond, List, eqb, None, Option, Some, Result, Ok, Err}
use Rattle.std.proofs.Common.{arith}
use Rattle.bits.specs.Bytes.{◌!◌, part}
use Rattle.tags.specs.Tags.{tag_of}
use Rattle.tags.specs.declared.Tag.{Tag}
use Rattle.standard_record.specs.declared.DetailedTiming.{DetailedTiming}
use Rattle.standard_record.specs.declared.Descriptor.{Descriptor}
use Rattle.standard_timing.specs.Timing.{clock_in, timing_in}
use Rattle.standard_parts.specs.Descriptors.{closing_refusal, range_refusal}
use Rattle.standard_parts.specs.Text.{all_spaces, is_padded}
use Rattle.standard_parts.specs.declared.Structure.{Structure}
use Rattle.standard_slots.specs.Said.{Said, refusal, nothing, timing, pairs, points, described, unless, pairs_in, points_in, text_in, range_in, raw_of, of_timed, by_tag, said}

-- P holds of each answer that the 18 bytes t from `at` on may give; a refusal's number is 3 to 6
pub record Each (P : Said → Type 0) (σ : Structure) (t : List ℕ) (at : ℕ) : Type 0 where
  pub refused : (n : ℕ) → 3 ≤ n → n ≤ 6 → P (refusal n)
  pub none : P nothing
  pub timed : (d : DetailedTiming) → P (timing d)
  pub listed : P (pairs (pairs_in σ t))
  pub pointed : P (points (points_in t))
  pub name : P (described (Descriptor.Name (text_in t at)))
  pub text : P (described (Descriptor.Text (text_in t at)))
  pub serial : P (described (Descriptor.Serial (text_in t at)))
  pub range : P (described (range_in σ t at))
  pub raw : P (described (raw_of (t ! 3) (record { start = at + 5; len = 13 })))

-- of both, so of either
pub either : {A : Type 0} (P : A → Type 0) (b : Bool) {x y : A} → P x → P y → P (cond b x y)
either P true h k = h
either P false h k = k

module _ (P : Said → Type 0) (σ : Structure) (t : List ℕ) (at : ℕ) (e : Each P σ t at) where
  -- of x behind a test, by what the test gives
  abbrev Behind : Said → Result Unit ℕ → Type 0
  Behind x r = P (unless r x)

  padding : (x : Said) (b : Bool) → P x → Behind x (cond b (Ok tt) (Err 5))
  padding x b h = either (Behind x) b h (e.refused 5 (omega arith) (omega arith))

  closing : (x : Said) (b : ℕ) (spaces : Bool) → P x → Behind x (closing_refusal b spaces)
  unfolding closing_refusal
  closing x b spaces h = either (Behind x) (eqb b 0x0a) (padding x spaces h) (e.refused 4 (omega arith) (omega arith))

  ranges : (x : Said) (kind b : ℕ) (spaces : Bool) → P x → Behind x (range_refusal kind b spaces)
  unfolding range_refusal
  ranges x kind b spaces h =
      either (Behind x) (eqb kind 0) (closing x b spaces h)
      (either (Behind x) (eqb kind 2) (either (Behind x) (eqb b 0) h (e.refused 4 (omega arith) (omega arith))) h)

  by_timing : (x : Option DetailedTiming) → P (of_timed x)
  by_timing (Some d) = e.timed d
  by_timing None = e.refused 6 (omega arith) (omega arith)

  pub each : (i : ℕ) → P (said σ i t at)
  unfolding said
  each i =
      either P (eqb (clock_in t) 0) (either P (eqb i 0) (e.refused 3 (omega arith) (omega arith)) (by_tag_lem (tag_of (t ! 3))))
      (by_timing (timing_in t))
    where
      by_tag_lem : (tag : Tag) → P (by_tag σ tag t at)
      by_tag_lem Tag.Dummy = e.none
      by_tag_lem Tag.Pairs = closing (pairs (pairs_in σ t)) (t ! 17) true e.listed
      by_tag_lem Tag.Points = closing (points (points_in t)) (t ! 15) (all_spaces (part t 16 2)) e.pointed
      by_tag_lem Tag.Name = padding (described (Descriptor.Name (text_in t at))) (is_padded (part t 5 13) (text_in t at).len) e.name
      by_tag_lem Tag.Range = ranges (described (range_in σ t at)) (t ! 10) (t ! 11) (all_spaces (part t 12 6)) e.range
      by_tag_lem Tag.Text = padding (described (Descriptor.Text (text_in t at))) (is_padded (part t 5 13) (text_in t at).len) e.text
      by_tag_lem Tag.Serial = padding (described (Descriptor.Serial (text_in t at))) (is_padded (part t 5 13) (text_in t at).len) e.serial
      by_tag_lem Tag.Raw = e.raw
