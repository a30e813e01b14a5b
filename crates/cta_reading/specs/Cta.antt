-- The reading of a CTA-861 extension s: data blocks from byte 4 up to the offset d, which is byte 2, and timings of 18 bytes from d on.
use Rattle.std.specs.Prelude.{ℕ, ◌+◌, ◌≡◌, Bool, not, cond, ◌&&◌, ◌||◌, eqb, ltb, leb, length, Ok, Err, None, Option, Some}
use mathlib.Core.List.{List, [], ◌∷◌, flat_map}
use Rattle.bits.specs.Fields.{digits}
use Rattle.bits.specs.Bytes.{◌!◌, part}
use Rattle.sums.specs.Sum.{byte_sum}
use Rattle.steps.specs.One.{one_value}
use Rattle.standard_record.specs.declared.DetailedTiming.{DetailedTiming}
use Rattle.standard_record.specs.Verdict.{Verdict}
use Rattle.standard_timing.specs.Timing.{clock_in, timing_in}
use Rattle.standard_verdict.specs.Verdict.{refused_at, must, ◌then◌}
use Rattle.cta_record.specs.Filler.{blank}
use Rattle.cta_record.specs.Seen.{Seen, holding}
use Rattle.cta_record.specs.declared.DataBlock.{DataBlock}
use Rattle.cta_record.specs.declared.Cta.{Cta}
use Rattle.cta_record.specs.declared.CtaReading.{CtaReading}
use Rattle.cta_reading.specs.Along.{along, first}

abbrev pub offset_in : List ℕ → ℕ
offset_in s = s ! 2

-- ---- data blocks: a header, with the tag in its upper three digits and the length in the others, and then so many bytes

abbrev pub tag_at : List ℕ → ℕ → ℕ
tag_at s p = digits (s ! p) 5 3

abbrev pub length_at : List ℕ → ℕ → ℕ
length_at s p = digits (s ! p) 0 5

abbrev pub end_at : List ℕ → ℕ → ℕ
end_at s p = p + 1 + length_at s p

-- their headers: each takes a byte, so from 4 up to 127 there are no more than 123
unfoldable pub blocks_in : List ℕ → List ℕ
blocks_in s = along (λ p. ltb p (offset_in s)) (end_at s) 123 4

abbrev pub judge_block : List ℕ → ℕ → Verdict
judge_block s p = must (leb (end_at s p) (offset_in s)) 13 p

-- with tag 2 it lists its bytes, else its tag and where its bytes stand
abbrev pub video_at : List ℕ → ℕ → List ℕ
video_at s p = cond (eqb (tag_at s p) 2) (part s (p + 1) (length_at s p)) []

abbrev pub data_block : List ℕ → ℕ → DataBlock
data_block s p = record { tag = tag_at s p; run = record { start = p + 1; len = length_at s p } }

abbrev pub block_at : List ℕ → ℕ → List DataBlock
block_at s p = cond (eqb (tag_at s p) 2) [] (data_block s p ∷ [])

-- ---- timings

-- 18 bytes before byte 127, with a clock
abbrev pub is_timing : List ℕ → ℕ → Bool
is_timing s p = leb (p + 18) 127 && not (eqb (clock_in (part s p 18)) 0)

-- where they begin: from 4 up to 127 there are no more than 6
unfoldable pub timings_in : List ℕ → List ℕ
timings_in s = cond (eqb (offset_in s) 0) [] (along (is_timing s) (λ p. p + 18) 6 (offset_in s))

abbrev pub judged : ℕ → Option DetailedTiming → Verdict
judged p (Some t) = Ok tt
judged p None = refused_at 6 p

abbrev pub judge_timing : List ℕ → ℕ → Verdict
judge_timing s p = judged p (timing_in (part s p 18))

abbrev pub listed : Option DetailedTiming → List DetailedTiming
listed (Some t) = t ∷ []
listed None = []

abbrev pub timing_at : List ℕ → ℕ → List DetailedTiming
timing_at s p = listed (timing_in (part s p 18))

-- ---- the verdict

abbrev pub is_offset : ℕ → Bool
is_offset d = eqb d 0 || (leb 4 d && leb d 127)

unfoldable pub before_blocks : List ℕ → Verdict
before_blocks s =
    must (eqb (length s) 128) 7 0
    then must (eqb (byte_sum s) 0) 8 127
    then must (eqb (s ! 0) 0x02) 12 0
    then must (is_offset (offset_in s)) 13 2

abbrev pub verdict_of : List ℕ → Verdict
verdict_of s = before_blocks s then first (judge_block s) (blocks_in s) then first (judge_timing s) (timings_in s)

-- ---- the reading

-- what the extension says, in plain lists
abbrev pub plain : List ℕ → Seen
plain s = record {
  revision = s ! 1;
  offset = offset_in s;
  support = s ! 3;
  video = flat_map (video_at s) (blocks_in s);
  blocks = flat_map (block_at s) (blocks_in s);
  timings = flat_map (timing_at s) (timings_in s);
}

-- beside a refusal the record is the filler
abbrev pub beside : Verdict → Cta → CtaReading
beside (Ok tt) c = record { cta = c; end = Ok tt }
beside (Err f) c = record { cta = blank; end = Err f }

unfoldable pub cta_of : List ℕ → CtaReading
cta_of s = beside (verdict_of s) (holding (plain s))

-- at most one value fits, as of every contract `r ≡ d` of a definition d
pub one_reading : (s : List ℕ) (r r' : CtaReading) → r ≡ cta_of s → r' ≡ cta_of s → r ≡ r'
one_reading s r r' = one_value r r'
