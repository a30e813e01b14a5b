-- What a slot may say, and what its bytes then are: one law, by which each fact goes back from what a slot says to its bytes.
use Rattle.std.specs.Prelude.{ℕ, ◌+◌, ◌<◌, ◌≡◌, Bool, cond, List, None, Option, Some, Result, Ok, Err}
use Rattle.std.proofs.Math.Path.{refl}
use Rattle.std.proofs.Math.Bool.{true, false}
use Rattle.std.proofs.Common.{arith}
use Rattle.std.proofs.Math.Dec.{eqb}
use borrow.Author.Tests.{eqb-false}
use Rattle.bits.specs.Bytes.{◌!◌, part}
use Rattle.steps.specs.declared.Span.{Span}
use Rattle.tags.specs.Tags.{tag_of}
use Rattle.tags.specs.declared.Tag.{Tag}
use Rattle.standard_record.specs.declared.DetailedTiming.{DetailedTiming}
use Rattle.standard_record.specs.declared.Descriptor.{Descriptor}
use Rattle.standard_timing.specs.Timing.{clock_in, timing_in}
use Rattle.standard_parts.specs.Descriptors.{closing_refusal, range_refusal}
use Rattle.standard_parts.specs.Text.{all_spaces, is_padded, text_length}
use Rattle.standard_parts.specs.declared.Structure.{Structure}
use Rattle.standard_slots.specs.Said.{Said, refusal, nothing, timing, pairs, points, described, unless, pairs_in, points_in, text_in, text_as, range_in, raw_of, of_timed, by_tag, said}

-- P holds of each answer, where the bytes t give it
pub record Cases (P : Said → Type 0) (σ : Structure) (t : List ℕ) (at : ℕ) : Type 0 where
  pub refused : (n : ℕ) → P (refusal n)
  pub none : P nothing
  pub timed : (d : DetailedTiming) → 0 < clock_in t → timing_in t ≡ Some d → P (timing d)
  pub listed : P (pairs (pairs_in σ t))
  pub pointed : P (points (points_in t))
  pub name : is_padded (part t 5 13) (text_length (part t 5 13)) ≡ true → P (described (Descriptor.Name (text_in t at)))
  pub text : is_padded (part t 5 13) (text_length (part t 5 13)) ≡ true → P (described (Descriptor.Text (text_in t at)))
  pub serial : is_padded (part t 5 13) (text_length (part t 5 13)) ≡ true → P (described (Descriptor.Serial (text_in t at)))
  pub range : P (described (range_in σ t at))
  pub raw : tag_of (t ! 3) ≡ Tag.Raw → P (described (raw_of (t ! 3) (record { start = at + 5; len = 13 })))

module _ (P : Said → Type 0) (σ : Structure) (t : List ℕ) (at : ℕ) (e : Cases P σ t at) where
  behind : (r : Result Unit ℕ) (x : Said) → P x → P (unless r x)
  behind (Ok u) x h = h
  behind (Err n) x h = e.refused n

  worded : (d : Span → Descriptor) → (is_padded (part t 5 13) (text_length (part t 5 13)) ≡ true → P (described (d (text_in t at)))) → P (text_as d t at)
  worded d h = go (is_padded (part t 5 13) (text_length (part t 5 13))) h
    where
      go : (z : Bool) → (z ≡ true → P (described (d (text_in t at)))) → P (unless (cond z (Ok tt) (Err 5)) (described (d (text_in t at))))
      go true h = h refl
      go false h = e.refused 5

  by_tag_lem : (tag : Tag) → tag_of (t ! 3) ≡ tag → P (by_tag σ tag t at)
  by_tag_lem Tag.Dummy p = e.none
  by_tag_lem Tag.Pairs p = behind (closing_refusal (t ! 17) true) (pairs (pairs_in σ t)) e.listed
  by_tag_lem Tag.Points p = behind (closing_refusal (t ! 15) (all_spaces (part t 16 2))) (points (points_in t)) e.pointed
  by_tag_lem Tag.Name p = worded Descriptor.Name e.name
  by_tag_lem Tag.Range p = behind (range_refusal (t ! 10) (t ! 11) (all_spaces (part t 12 6))) (described (range_in σ t at)) e.range
  by_tag_lem Tag.Text p = worded Descriptor.Text e.text
  by_tag_lem Tag.Serial p = worded Descriptor.Serial e.serial
  by_tag_lem Tag.Raw p = e.raw p

  by_timing : (x : Option DetailedTiming) → 0 < clock_in t → timing_in t ≡ x → P (of_timed x)
  by_timing (Some d) h p = e.timed d h p
  by_timing None h p = e.refused 6

  pub told : (i : ℕ) → P (said σ i t at)
  unfolding said
  told i = go (eqb (clock_in t) 0) refl (eqb i 0)
    where
      go : (z : Bool) → eqb (clock_in t) 0 ≡ z → (y : Bool) → P (cond z (cond y (refusal 3) (by_tag σ (tag_of (t ! 3)) t at)) (of_timed (timing_in t)))
      go true p true = e.refused 3
      go true p false = by_tag_lem (tag_of (t ! 3)) refl
      go false p y = let h = eqb-false (clock_in t) 0 p in by_timing (timing_in t) (omega arith) refl
