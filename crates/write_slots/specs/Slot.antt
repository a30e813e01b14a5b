-- The 18 bytes of a slot, from what it is to show: the canonical ones. Where no block shows it, it is no matter what stands here.
use Rattle.std.specs.Prelude.{ℕ, zero, suc, ◌+◌, ◌-◌, ◌*◌, ◌/◌, cond, List, [], ◌∷◌, ◌++◌, leb, replicate}
use Rattle.fixed.specs.Fixed.{pad}
use Rattle.standard_record.specs.declared.DetailedTiming.{DetailedTiming}
use Rattle.standard_record.specs.declared.StandardTiming.{StandardTiming}
use Rattle.standard_record.specs.declared.WhitePoint.{WhitePoint}
use Rattle.standard_record.specs.declared.Limits.{Limits}
use Rattle.standard_parts.specs.Descriptors.{to_min, to_max}
use Rattle.write_leaf.specs.Bytes.{low}
use Rattle.write_timing.specs.Timing.{timing_bytes}
use Rattle.write_pairs.specs.Pairs.{pairs_bytes}
use Rattle.write_parts.specs.Point.{point_bytes}
use Rattle.write_parts.specs.Text.{text_bytes}
use Rattle.write_slots.specs.Words.{Secondary, none, gtf, other, Words, serial, text, range, name, undefined, maker_defined}

-- a slot without a clock: its tag, the byte behind it, then 13 bytes
abbrev pub headed : ℕ → ℕ → List ℕ → List ℕ
headed tag b4 rest = 0 ∷ 0 ∷ 0 ∷ tag ∷ b4 ∷ rest

abbrev pub tagged : ℕ → List ℕ → List ℕ
tagged tag rest = headed tag 0 rest

-- n points: those listed first, then zeros
abbrev pub points_bytes : ℕ → List WhitePoint → List ℕ
points_bytes zero ws = []
points_bytes (suc n) [] = replicate 5 0 ++ points_bytes n []
points_bytes (suc n) (w ∷ ws) = point_bytes w ++ points_bytes n ws

-- the lowest code of an offset with which each end of a range has a byte
abbrev pub offset_code : ℕ → ℕ → ℕ
offset_code min max = cond (leb 256 min) 3 (cond (leb 256 max) 2 0)

-- the two ends, less what the code adds
abbrev pub ends_bytes : ℕ → ℕ → List ℕ → List ℕ
ends_bytes min max rest = low (min - to_min (offset_code min max)) ∷ low (max - to_max (offset_code min max)) ∷ rest

abbrev pub offsets_byte : Limits → ℕ
offsets_byte l = offset_code l.vmin l.vmax + 4 * offset_code (l.hmin / 1000) (l.hmax / 1000)

abbrev pub limits_bytes : Limits → List ℕ
limits_bytes l = ends_bytes l.vmin l.vmax (ends_bytes (l.hmin / 1000) (l.hmax / 1000) (low (l.clock / 10000000) ∷ []))

-- the kind and seven bytes
abbrev pub secondary_bytes : Secondary → List ℕ
secondary_bytes none = 0 ∷ 0x0a ∷ replicate 6 0x20
secondary_bytes (gtf start c m k j) = 2 ∷ 0 ∷ low (start / 2000) ∷ c ∷ low m ∷ low (m / 256) ∷ k ∷ j ∷ []
secondary_bytes (other kind run) = kind ∷ pad 7 0 run

abbrev pub descriptor_bytes : Words → List ℕ
descriptor_bytes (serial t) = tagged 0xff (text_bytes t)
descriptor_bytes (text t) = tagged 0xfe (text_bytes t)
descriptor_bytes (range l s) = headed 0xfd (offsets_byte l) (limits_bytes l ++ secondary_bytes s)
descriptor_bytes (name t) = tagged 0xfc (text_bytes t)
descriptor_bytes (undefined tag run) = tagged tag (pad 13 0 run)
descriptor_bytes (maker_defined tag run) = tagged tag (pad 13 0 run)

-- by the first of the four lists that has an entry; without any, tag 10 and zeros
unfoldable pub slot_bytes : List DetailedTiming → List StandardTiming → List WhitePoint → List Words → List ℕ
slot_bytes (d ∷ ts) ps ws ds = timing_bytes d
slot_bytes [] (p ∷ ps) ws ds = tagged 0xfa (pairs_bytes 6 (p ∷ ps) ++ 0x0a ∷ [])
slot_bytes [] [] (w ∷ ws) ds = tagged 0xfb (points_bytes 2 (w ∷ ws) ++ 0x0a ∷ 0x20 ∷ 0x20 ∷ [])
slot_bytes [] [] [] (d ∷ ds) = descriptor_bytes d
slot_bytes [] [] [] [] = tagged 0x10 (replicate 13 0)
