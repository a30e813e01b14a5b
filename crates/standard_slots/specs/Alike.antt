-- The structure decides no refusal: what is refused by one is refused by each, with the same number.
use Rattle.std.specs.Prelude.{ℕ, Result, Ok, Err, ◌≡◌, Bool, List, eqb}
use Rattle.std.proofs.Math.Bool.{true, false, cond}
use Rattle.bits.specs.Bytes.{◌!◌, part}
use Rattle.tags.specs.Tags.{tag_of}
use Rattle.tags.specs.declared.Tag.{Tag}
use Rattle.standard_timing.specs.Timing.{clock_in, timing_in}
use Rattle.standard_parts.specs.Descriptors.{closing_refusal, range_refusal}
use Rattle.standard_parts.specs.Text.{all_spaces}
use Rattle.standard_parts.specs.declared.Structure.{Structure}
use Rattle.standard_slots.specs.Said.{Said, refusal, pairs, described, unless, pairs_in, range_in, of_timed, by_tag, said}

module _ (σ τ : Structure) (t : List ℕ) (at n : ℕ) where
  -- what is refused by a number, whichever of two is said otherwise
  behind : (number : Result Unit ℕ) (x y : Said) → (x ≡ refusal n → y ≡ refusal n) → unless number x ≡ refusal n → unless number y ≡ refusal n
  behind (Ok u) x y passed e = passed e
  behind (Err m) x y passed e = e

  pub refused_alike : (i : ℕ) → said σ i t at ≡ refusal n → said τ i t at ≡ refusal n
  unfolding said
  refused_alike i = go (eqb (clock_in t) 0) (eqb i 0)
    where
      by_tag_lem : (tag : Tag) → by_tag σ tag t at ≡ refusal n → by_tag τ tag t at ≡ refusal n
      by_tag_lem Tag.Pairs = behind (closing_refusal (t ! 17) true) (pairs (pairs_in σ t)) (pairs (pairs_in τ t)) (λ e. cc)
      by_tag_lem Tag.Range =
          behind (range_refusal (t ! 10) (t ! 11) (all_spaces (part t 12 6))) (described (range_in σ t at)) (described (range_in τ t at)) (λ e. cc)
      by_tag_lem Tag.Dummy = λ e. e
      by_tag_lem Tag.Points = λ e. e
      by_tag_lem Tag.Name = λ e. e
      by_tag_lem Tag.Text = λ e. e
      by_tag_lem Tag.Serial = λ e. e
      by_tag_lem Tag.Raw = λ e. e

      go : (clockless first : Bool) → cond clockless (cond first (refusal 3) (by_tag σ (tag_of (t ! 3)) t at)) (of_timed (timing_in t)) ≡ refusal n
          → cond clockless (cond first (refusal 3) (by_tag τ (tag_of (t ! 3)) t at)) (of_timed (timing_in t)) ≡ refusal n
      go true true e = e
      go true false e = by_tag_lem (tag_of (t ! 3)) e
      go false first e = e
