-- What a slot shows: what it lists, with the bytes of each span in the span's place.
use Rattle.std.specs.Prelude.{ℕ, List, [], ◌∷◌}
use Rattle.bits.specs.Bytes.{part}
use Rattle.steps.specs.Spans.{Inside}
use Rattle.steps.specs.declared.Span.{Span}
use Rattle.standard_record.specs.declared.DetailedTiming.{DetailedTiming}
use Rattle.standard_record.specs.declared.StandardTiming.{StandardTiming}
use Rattle.standard_record.specs.declared.WhitePoint.{WhitePoint}
use Rattle.standard_record.specs.declared.Limits.{Limits}
use Rattle.standard_record.specs.declared.SecondaryTiming.{SecondaryTiming}
use Rattle.standard_record.specs.declared.Descriptor.{Descriptor}
use Rattle.standard_slots.specs.Spans.{SoundSecond}
use Rattle.standard_slots.specs.Said.{Said, refusal, nothing, timing, pairs, points, described}

-- ---- a descriptor, with bytes for its spans

pub data Secondary : Type 0 where
  none : Secondary
  gtf : ℕ → ℕ → ℕ → ℕ → ℕ → Secondary
  other : ℕ → List ℕ → Secondary

pub data Words : Type 0 where
  serial : List ℕ → Words
  text : List ℕ → Words
  range : Limits → Secondary → Words
  name : List ℕ → Words
  undefined : ℕ → List ℕ → Words
  maker_defined : ℕ → List ℕ → Words

-- the bytes of s that a span shows
abbrev pub bytes_of : List ℕ → Span → List ℕ
bytes_of s t = part s t.start t.len

abbrev pub secondary : List ℕ → SecondaryTiming → Secondary
secondary s SecondaryTiming.None = none
secondary s (SecondaryTiming.GTF start c m k j) = gtf start c m k j
secondary s (SecondaryTiming.Other kind t) = other kind (bytes_of s t)

abbrev pub words : List ℕ → Descriptor → Words
words s (Descriptor.Serial t) = serial (bytes_of s t)
words s (Descriptor.Text t) = text (bytes_of s t)
words s (Descriptor.Range l t) = range l (secondary s t)
words s (Descriptor.Name t) = name (bytes_of s t)
words s (Descriptor.Undefined tag t) = undefined tag (bytes_of s t)
words s (Descriptor.MakerDefined tag t) = maker_defined tag (bytes_of s t)

-- its span, if it has one, ends by the place n
abbrev pub SpanInside : Descriptor → ℕ → Type 0
SpanInside (Descriptor.Serial t) n = Inside t n
SpanInside (Descriptor.Text t) n = Inside t n
SpanInside (Descriptor.Range l t) n = SoundSecond t n
SpanInside (Descriptor.Name t) n = Inside t n
SpanInside (Descriptor.Undefined tag t) n = Inside t n
SpanInside (Descriptor.MakerDefined tag t) n = Inside t n

-- ---- a slot

pub record Entries : Type 0 where
  pub timings : List DetailedTiming
  pub pairs : List StandardTiming
  pub points : List WhitePoint
  pub descriptors : List Words

-- in this order
abbrev pub entries : List DetailedTiming → List StandardTiming → List WhitePoint → List Words → Entries
entries ts ps ws ds = record { timings = ts; pairs = ps; points = ws; descriptors = ds }

-- it is refused, or it shows these entries
pub data Shows : Type 0 where
  refused : Shows
  these : Entries → Shows

-- what a slot says, with the bytes that its span shows of s
abbrev pub shows : List ℕ → Said → Shows
shows s (refusal n) = refused
shows s nothing = these (entries [] [] [] [])
shows s (timing d) = these (entries (d ∷ []) [] [] [])
shows s (pairs ps) = these (entries [] ps [] [])
shows s (points ws) = these (entries [] [] ws [])
shows s (described d) = these (entries [] [] [] (words s d ∷ []))
