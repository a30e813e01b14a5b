-- The standard reading of a block, by fixed offsets.
use Rattle.std.specs.Prelude.{ℕ, ◌≡◌, List, ◌++◌, map, Ok, Err}
use Rattle.bits.specs.Bytes.{◌!◌}
use Rattle.fixed.specs.Numbered.{turns}
use Rattle.steps.specs.One.{one_value}
use Rattle.standard_record.specs.Filler.{blank}
use Rattle.standard_record.specs.Held.{held_point, held_pair, held_timing, held}
use Rattle.standard_record.specs.Seen.{Seen, holding}
use Rattle.standard_record.specs.Verdict.{Verdict}
use Rattle.standard_record.specs.declared.StandardRecord.{StandardRecord}
use Rattle.standard_record.specs.declared.StandardReading.{StandardReading}
use Rattle.standard_record.specs.declared.StandardTiming.{StandardTiming}
use Rattle.standard_record.specs.declared.HeldPoint.{HeldPoint}
use Rattle.standard_record.specs.declared.HeldPair.{HeldPair}
use Rattle.standard_record.specs.declared.HeldTiming.{HeldTiming}
use Rattle.standard_record.specs.declared.Held.{Held}
use Rattle.standard_head.specs.Head.{structure_in, product_in, version_in, display_in, colors_in}
use Rattle.standard_parts.specs.Timings.{flags_of}
use Rattle.standard_slots.specs.Said.{pairs_at, lists}
use Rattle.standard_reading.specs.Slots.{said_in, verdict_of}

-- ---- what the block lists

abbrev pub flags_in : List ℕ → List ℕ
flags_in s = flags_of (s ! 35) (s ! 36) (s ! 37)

-- those of the first n slots; that of slot i, counted from 0, has the number i + 1
abbrev pub timings_of : List ℕ → ℕ → List HeldTiming
timings_of s n = turns held_timing (λ i. (lists (said_in s i)).timings) n

-- the eight pairs before the slots
abbrev pub eight_in : List ℕ → List StandardTiming
eight_in s = pairs_at (structure_in s) s 38 8

-- they come first, with 0
abbrev pub pairs_of : List ℕ → ℕ → List HeldPair
pairs_of s n = map (held_pair.wrap 0) (eight_in s) ++ turns held_pair (λ i. (lists (said_in s i)).pairs) n

abbrev pub points_of : List ℕ → ℕ → List HeldPoint
points_of s n = turns held_point (λ i. (lists (said_in s i)).points) n

abbrev pub descriptors_of : List ℕ → ℕ → List Held
descriptors_of s n = turns held (λ i. (lists (said_in s i)).descriptors) n

-- ---- the record

-- what the block says, in plain lists
abbrev pub plain : List ℕ → Seen
plain s = record {
  product = product_in s;
  version = version_in s;
  display = display_in s;
  basic = colors_in s;
  points = points_of s 4;
  established = flags_in s;
  standard = pairs_of s 4;
  detailed = timings_of s 4;
  descriptors = descriptors_of s 4;
  extensions = s ! 126;
}

unfoldable pub record_of : List ℕ → StandardRecord
record_of s = holding (plain s)

-- ---- the reading

-- beside a refusal the record is the filler
abbrev pub beside : Verdict → StandardRecord → StandardReading
beside (Ok tt) r = record { edid = r; end = Ok tt }
beside (Err f) r = record { edid = blank; end = Err f }

unfoldable pub standard_of : List ℕ → StandardReading
standard_of s = beside (verdict_of s) (record_of s)

-- at most one value fits, as of every contract `r ≡ d` of a definition d
pub one_reading : (s : List ℕ) (r r' : StandardReading) → r ≡ standard_of s → r' ≡ standard_of s → r ≡ r'
one_reading s r r' = one_value r r'
