-- What a slot says, tag by tag: what is judged, and what is listed. t is its 18 bytes, `at` the place of the first of them in the block, σ the
-- structure.
use Rattle.std.specs.Prelude.{ℕ, ◌+◌, ◌*◌, true, cond, List, [], ◌∷◌, ◌++◌, eqb, ltb, None, Option, Some, Result, Ok, Err}
use Rattle.bits.specs.Bytes.{◌!◌, part}
use Rattle.fixed.specs.Gather.{gather}
use Rattle.steps.specs.declared.Span.{Span}
use Rattle.tags.specs.Tags.{tag_of}
use Rattle.tags.specs.declared.Tag.{Tag}
use Rattle.standard_record.specs.declared.DetailedTiming.{DetailedTiming}
use Rattle.standard_record.specs.declared.StandardTiming.{StandardTiming}
use Rattle.standard_record.specs.declared.WhitePoint.{WhitePoint}
use Rattle.standard_record.specs.declared.Limits.{Limits}
use Rattle.standard_record.specs.declared.Descriptor.{Descriptor}
use Rattle.standard_record.specs.declared.Descriptor.TheVariants.{Serial, Text, Range, Name, Undefined, MakerDefined}
use Rattle.standard_timing.specs.Timing.{clock_in, timing_in}
use Rattle.standard_parts.specs.Color.{point_of}
use Rattle.standard_parts.specs.Timings.{pair_of}
use Rattle.standard_parts.specs.Descriptors.{offsets_of, limits_of, secondary_of, closing_refusal, range_refusal}
use Rattle.standard_parts.specs.Text.{text_length, all_spaces, is_padded}
use Rattle.standard_parts.specs.declared.Structure.{Structure}

-- a refusal's number, or what the slot lists
pub data Said : Type 0 where
  refusal : ℕ → Said
  nothing : Said
  timing : DetailedTiming → Said
  pairs : List StandardTiming → Said
  points : List WhitePoint → Said
  described : Descriptor → Said

-- x, unless a test before it gives the number of a refusal
abbrev pub unless : Result Unit ℕ → Said → Said
unless (Ok passed) x = x
unless (Err n) x = refusal n

-- ---- the parts of a slot

abbrev pub of_pair : Option StandardTiming → List StandardTiming
of_pair (Some v) = v ∷ []
of_pair None = []

-- the pair at k
abbrev pub pair_at : Structure → List ℕ → ℕ → List StandardTiming
pair_at σ s k = of_pair (pair_of σ (s ! k) (s ! (k + 1)))

-- n pairs from k on
abbrev pub pairs_at : Structure → List ℕ → ℕ → ℕ → List StandardTiming
pairs_at σ s k n = gather (λ i. pair_at σ s (k + 2 * i)) n

-- of an fa slot
abbrev pub pairs_in : Structure → List ℕ → List StandardTiming
pairs_in σ t = pairs_at σ t 5 6

abbrev pub of_point : Option WhitePoint → List WhitePoint
of_point (Some v) = v ∷ []
of_point None = []

-- five bytes from k on
unfoldable pub point_at : List ℕ → ℕ → Option WhitePoint
point_at t k = point_of (t ! k) (t ! (k + 1)) (t ! (k + 2)) (t ! (k + 3)) (t ! (k + 4))

-- of an fb slot
abbrev pub points_in : List ℕ → List WhitePoint
points_in t = of_point (point_at t 5) ++ of_point (point_at t 10)

abbrev pub text_in : List ℕ → ℕ → Span
text_in t at = record { start = at + 5; len = text_length (part t 5 13) }

-- behind a text of n bytes
abbrev pub padding_refusal : List ℕ → ℕ → Result Unit ℕ
padding_refusal t n = cond (is_padded (part t 5 13) n) (Ok tt) (Err 5)

abbrev pub text_as : (Span → Descriptor) → List ℕ → ℕ → Said
text_as d t at = unless (padding_refusal t (text_in t at).len) (described (d (text_in t at)))

abbrev pub limits_in : Structure → List ℕ → Limits
limits_in σ t = limits_of (offsets_of σ (t ! 4)) (t ! 5) (t ! 6) (t ! 7) (t ! 8) (t ! 9)

unfoldable pub range_in : Structure → List ℕ → ℕ → Descriptor
range_in σ t at =
    Range
    (limits_in σ t)
    (secondary_of (t ! 10) (t ! 12) (t ! 13) (t ! 14) (t ! 15) (t ! 16) (t ! 17) (record { start = at + 11; len = 7 }))

-- the maker's bytes below 0x10, else undefined ones
abbrev pub raw_of : ℕ → Span → Descriptor
raw_of tag run = cond (ltb tag 0x10) (MakerDefined tag run) (Undefined tag run)

-- ---- the slot

-- a slot with a clock is a timing
abbrev pub of_timed : Option DetailedTiming → Said
of_timed (Some d) = timing d
of_timed None = refusal 6

-- one without goes by its tag
abbrev pub by_tag : Structure → Tag → List ℕ → ℕ → Said
by_tag σ Tag.Dummy t at = nothing
by_tag σ Tag.Pairs t at = unless (closing_refusal (t ! 17) true) (pairs (pairs_in σ t))
by_tag σ Tag.Points t at = unless (closing_refusal (t ! 15) (all_spaces (part t 16 2))) (points (points_in t))
by_tag σ Tag.Name t at = text_as Name t at
by_tag σ Tag.Range t at = unless (range_refusal (t ! 10) (t ! 11) (all_spaces (part t 12 6))) (described (range_in σ t at))
by_tag σ Tag.Text t at = text_as Text t at
by_tag σ Tag.Serial t at = text_as Serial t at
by_tag σ Tag.Raw t at = described (raw_of (t ! 3) (record { start = at + 5; len = 13 }))

-- slot i of 0 to 3: the first must be a timing; of another, the fourth byte is the tag
unfoldable pub said : Structure → ℕ → List ℕ → ℕ → Said
said σ i t at = cond (eqb (clock_in t) 0) (cond (eqb i 0) (refusal 3) (by_tag σ (tag_of (t ! 3)) t at)) (of_timed (timing_in t))

-- ---- what is listed: each slot feeds one list at most

pub record Lists : Type 0 where
  pub timings : List DetailedTiming
  pub pairs : List StandardTiming
  pub points : List WhitePoint
  pub descriptors : List Descriptor

-- in this order
abbrev pub four : List DetailedTiming → List StandardTiming → List WhitePoint → List Descriptor → Lists
four ts ps ws ds = record { timings = ts; pairs = ps; points = ws; descriptors = ds }

abbrev pub lists : Said → Lists
lists (refusal n) = four [] [] [] []
lists nothing = four [] [] [] []
lists (timing d) = four (d ∷ []) [] [] []
lists (pairs ps) = four [] ps [] []
lists (points ws) = four [] [] ws []
lists (described d) = four [] [] [] (d ∷ [])
