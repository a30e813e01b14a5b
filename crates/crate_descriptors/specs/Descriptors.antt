-- The descriptor of a slot that holds no timing, as the source reads it: what its tag names.
use Rattle.std.specs.Prelude.{ℕ, zero, suc, ◌*◌, cond, eqb, ltb}
use Rattle.steps.specs.Steps.{Steps, done, ◌>>=◌, ◌>>◌, ensure}
use Rattle.steps.specs.Leaves.{byte, word}
use Rattle.steps.specs.declared.Span.{Span}
use Rattle.tags.specs.Tags.{tag_of}
use Rattle.tags.specs.declared.Tag.{Tag}
use Rattle.crate_text.specs.Text.{skip, span, text}
use Rattle.crate_record.specs.Single.{whole, gamma_of, coordinate, half_of}
use Rattle.crate_record.specs.declared.WhitePoint.{WhitePoint}
use Rattle.crate_record.specs.declared.Limits.{Limits}
use Rattle.crate_record.specs.declared.SecondaryTiming.{SecondaryTiming}
use Rattle.crate_record.specs.declared.SecondaryTiming.TheVariants.{None, GTF, Other}
use Rattle.crate_record.specs.declared.MonitorDescriptor.{MonitorDescriptor}
use Rattle.crate_record.specs.declared.MonitorDescriptor.TheVariants.{SerialNumber, OtherString, RangeLimits, MonitorName, Undefined, ManufacturerDefined}
use Rattle.crate_descriptors.specs.declared.Points.{Points}
use Rattle.crate_descriptors.specs.declared.Points.TheVariants.{One, Two}
use Rattle.crate_descriptors.specs.declared.Slot.{Slot}
use Rattle.crate_descriptors.specs.declared.Slot.TheVariants.{Nothing, Described, White, Six}

-- ---- how descriptors end

-- n words of 0x2020
unfoldable pub spaces : ℕ → Steps Unit
spaces zero = done tt
spaces (suc n) = do
  w ← word
  ensure (eqb w 0x2020) 5
  spaces n

-- 0x0a, and n words of 0x2020
unfoldable pub closing : ℕ → Steps Unit
closing n = do
  b ← byte
  ensure (eqb b 0x0a) 4
  spaces n

-- ---- fb: white points

unfoldable pub point_of : ℕ → ℕ → ℕ → ℕ → ℕ → WhitePoint
point_of index low x y g =
    record { index = index; x = coordinate x low 2; y = coordinate y low 0; gamma = gamma_of g }

unfoldable pub point : Steps WhitePoint
point = do
  index ← byte
  low ← byte
  x ← byte
  y ← byte
  g ← byte
  done (point_of index low x y g)

-- after a point of index 0 five bytes are skipped, and no further point is taken
unfoldable pub ended : Points → Steps Points
ended ps = do
  skip 5
  done ps

unfoldable pub second : WhitePoint → Steps Points
second p = do
  q ← point
  cond (eqb q.index 0) (ended (Two p q)) (done (Two p q))

unfoldable pub points : Steps Points
points = do
  p ← point
  cond (eqb p.index 0) (ended (One p)) (second p)

unfoldable pub white : Steps Slot
white = do
  ps ← points
  closing 1
  done (White ps)

-- ---- fd: range limits

unfoldable pub gtf_of : ℕ → ℕ → ℕ → ℕ → ℕ → SecondaryTiming
gtf_of start c m k j = GTF (start * 2000) (half_of c) (whole m) (whole k) (half_of j)

unfoldable pub gtf : Steps SecondaryTiming
gtf = do
  b ← byte
  ensure (eqb b 0x00) 4
  start ← byte
  c ← byte
  m ← word
  k ← byte
  j ← byte
  done (gtf_of start c m k j)

unfoldable pub none : Steps SecondaryTiming
none = do
  closing 3
  done None

unfoldable pub other : ℕ → Steps SecondaryTiming
other kind = do
  d ← span 7
  done (Other kind d)

unfoldable pub secondary : ℕ → Steps SecondaryTiming
secondary kind = cond (eqb kind 0x00) none (cond (eqb kind 0x02) gtf (other kind))

unfoldable pub limits_of : ℕ → ℕ → ℕ → ℕ → ℕ → Limits
limits_of vmin vmax hmin hmax clock =
    record { vmin = vmin; vmax = vmax; hmin = hmin * 1000; hmax = hmax * 1000; clock = clock * 10000000 }

unfoldable pub range : Steps Slot
range = do
  vmin ← byte
  vmax ← byte
  hmin ← byte
  hmax ← byte
  clock ← byte
  kind ← byte
  t ← secondary kind
  done (Described (RangeLimits (limits_of vmin vmax hmin hmax clock) t))

-- ---- fc, fe, ff: texts; raw runs

unfoldable pub string_of : ℕ → Span → MonitorDescriptor
string_of tag t = cond (eqb tag 0xfc) (MonitorName t) (cond (eqb tag 0xfe) (OtherString t) (SerialNumber t))

unfoldable pub string : ℕ → Steps Slot
string tag = do
  t ← text
  done (Described (string_of tag t))

unfoldable pub raw_of : ℕ → Span → MonitorDescriptor
raw_of tag d = cond (ltb tag 0x10) (ManufacturerDefined tag d) (Undefined tag d)

unfoldable pub raw : ℕ → Steps Slot
raw tag = do
  d ← span 13
  done (Described (raw_of tag d))

-- ---- the descriptor

-- by what the tag names
abbrev pub by_tag : ℕ → Tag → Steps Slot
by_tag tag Tag.Dummy = done Nothing
by_tag tag Tag.Pairs = done Six
by_tag tag Tag.Points = white
by_tag tag Tag.Name = string tag
by_tag tag Tag.Range = range
by_tag tag Tag.Text = string tag
by_tag tag Tag.Serial = string tag
by_tag tag Tag.Raw = raw tag

unfoldable pub tagged : ℕ → Steps Slot
tagged tag = by_tag tag (tag_of tag)

unfoldable pub descriptor : Steps Slot
descriptor = do
  tag ← byte
  byte
  tagged tag
