-- What the private functions of `write_slots` answer: the tests that the code makes, and m < 65536, which the code has from m's type.
use Rattle.std.specs.Prelude.{ℕ, ◌+◌, ◌-◌, ◌*◌, ◌/◌, ◌%◌, ◌≤◌, ◌≡◌, Bool, true, ◌&&◌, ◌||◌, not, List, [], ◌∷◌, eqb, leb, ltb, length}
use Rattle.bits.specs.Bytes.{◌!◌}
use Rattle.steps.specs.Spans.{Inside}
use Rattle.steps.specs.declared.Span.{Span}
use Rattle.standard_record.specs.declared.Limits.{Limits}
use Rattle.standard_record.specs.declared.SecondaryTiming.{SecondaryTiming}
use Rattle.standard_parts.specs.Structure.{since4}
use Rattle.standard_parts.specs.Descriptors.{to_min, to_max}
use Rattle.standard_parts.specs.declared.Structure.{Structure}
use Rattle.write_leaf.specs.Bytes.{Bytes, digit, low}
use Rattle.write_leaf.specs.Leaf.{Writes}
use Rattle.write_parts.specs.Text.{text_bytes, ReadsText}
use Rattle.write_slots.specs.Words.{bytes_of}
use Rattle.write_slots.specs.Slot.{offset_code, ends_bytes, offsets_byte, limits_bytes}
use Rattle.write_slots.specs.declared.EndsBytes.{EndsBytes}
use Rattle.write_slots.specs.declared.LimitsBytes.{LimitsBytes}

-- ---- white points

abbrev pub both_points : Bool → Bool → Bool
both_points a b = eqb (digit a + digit b) 2

-- two points of five bytes
abbrev pub points_rest : List ℕ → List ℕ → List ℕ
points_rest p q = p ! 0 ∷ p ! 1 ∷ p ! 2 ∷ p ! 3 ∷ p ! 4 ∷ q ! 0 ∷ q ! 1 ∷ q ! 2 ∷ q ! 3 ∷ q ! 4 ∷ 0x0a ∷ 0x20 ∷ 0x20 ∷ []

-- ---- spans

abbrev pub within : Span → ℕ → Bool
within s n = leb (s.start + s.len) n

abbrev pub exact : ℕ → Span → ℕ → Bool
exact size s n = eqb (digit (eqb s.len size) + digit (within s n)) 2

-- the 13 bytes of the text that a span shows
abbrev pub WritesSpan : List ℕ → Span → Bool → List ℕ → Type 0
WritesSpan lent s = Writes Bytes (λ t text. Inside s (length lent) × ReadsText t text) text_bytes (bytes_of lent s)

-- the tags of an undefined run
abbrev pub middle : ℕ → Bool
middle tag = eqb (digit (leb 0x11 tag) + digit (leb tag 0xf9)) 2

abbrev pub run_fits : Bool → Span → ℕ → Bool
run_fits known s n = eqb (digit known + digit (exact 13 s n)) 2

-- ---- range limits

-- n is had back from a byte that counts units
abbrev pub counted : ℕ → ℕ → Bool
counted unit n = eqb (low (n / unit) * unit) n

abbrev pub secondary_fits : SecondaryTiming → ℕ → Bool
secondary_fits SecondaryTiming.None n = true
secondary_fits (SecondaryTiming.GTF start c m k j) n = ltb m 65536 && counted 2000 start
secondary_fits (SecondaryTiming.Other kind s) n = eqb (digit (not (eqb kind 0)) + digit (not (eqb kind 2)) + digit (exact 7 s n)) 3

-- each end is had back from its byte; below revision 4 without an offset
abbrev pub ends_fit : Structure → ℕ → ℕ → Bool
ends_fit σ min max =
    let code = offset_code min max in
    eqb (digit (eqb (low (min - to_min code) + to_min code) min) + digit (eqb (low (max - to_max code) + to_max code) max) + digit (since4 σ || eqb code 0)) 3

abbrev pub limits_fit : Structure → Limits → Bool
limits_fit σ l =
    eqb (digit (ends_fit σ l.vmin l.vmax) + digit (ends_fit σ (l.hmin / 1000) (l.hmax / 1000))
    + digit (eqb (l.hmin % 1000 + l.hmax % 1000) 0) + digit (counted 10000000 l.clock)) 4

abbrev pub range_fits : Structure → Limits → SecondaryTiming → ℕ → Bool
range_fits σ l s n = eqb (digit (limits_fit σ l) + digit (secondary_fits s n)) 2

-- what the functions of the parts ensure
pub record MakesEnds (σ : Structure) (min max : ℕ) (r : EndsBytes) : Type 0 where
  pub fits : r.fits ≡ ends_fit σ min max
  pub code : r.code ≡ offset_code min max
  pub few : r.code ≤ 3
  pub bytes : (rest : List ℕ) → r.min ∷ r.max ∷ rest ≡ ends_bytes min max rest

pub record MakesLimits (σ : Structure) (l : Limits) (r : LimitsBytes) : Type 0 where
  pub fits : r.fits ≡ limits_fit σ l
  pub offsets : r.offsets ≡ offsets_byte l
  pub bytes : r.bytes ≡ limits_bytes l
