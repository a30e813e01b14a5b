-- Laws: the bytes of an axis are read as that axis, where each of its fields fits; and what is read fits.
use Rattle.std.specs.Prelude.{ℕ, ◌+◌, ◌-◌, ◌*◌, ◌/◌, ◌%◌, ◌<◌, Bool, ◌≡◌, None, Option, Some, option_map}
use Rattle.std.proofs.Math.Bool.{true, false}
use Rattle.std.proofs.Math.Path.{refl}
use Rattle.std.proofs.Common.{arith}
use Rattle.std.proofs.Math.Dec.{leb}
use borrow.Author.Tests.{le-leb, leb-true}
use Rattle.bits.specs.Fields.{digits}
use Rattle.timing.specs.Axis.{pixels, lines, back_porch, across_with, down_with, across_of, down_of}
use Rattle.timing.specs.declared.Across.{Across}
use Rattle.timing.specs.declared.Down.{Down}
use Rattle.write_leaf.specs.Bytes.{low, nibbles, uppers}
use Rattle.write_leaf.specs.Digits.{upper_first, upper_second, field_6, field_4, field_2, field_0}
use Rattle.write_timing.specs.Timing.{across_blank, down_blank, porch_code}

-- an axis fits, with fewer than `most` in a porch or a sync
pub record AxisFits (most a f s b : ℕ) : Type 0 where
  pub active : a < 4096
  pub blank : f + s + b < 4096
  pub front : f < most
  pub sync : s < most

abbrev pub AcrossFits : Across → Type 0
AcrossFits h = AxisFits 1024 h.active.0 h.front.0 h.sync.0 h.back.0

abbrev pub DownFits : Down → Type 0
DownFits v = AxisFits 64 v.active.0 v.front.0 v.sync.0 v.back.0

-- ---- from the bytes to the axis

-- a blanking of a porch, a sync and a porch has room, and the second porch is what is left of it
room : (f s b : ℕ) → leb (s + f) (f + s + b) ≡ true
room f s b = le-leb (s + f) (f + s + b) (omega arith)

rest : (f s b : ℕ) → f + s + b - s - f ≡ b
rest f s b = omega arith

module _ (h : Across) (v : Down) where
  porch_6 : digits (porch_code h v) 6 2 ≡ h.front.0 / 256 % 4
  porch_6 = field_6 (h.front.0 / 256) (h.sync.0 / 256) (v.front.0 / 16) (v.sync.0 / 16)

  porch_4 : digits (porch_code h v) 4 2 ≡ h.sync.0 / 256 % 4
  porch_4 = field_4 (h.front.0 / 256) (h.sync.0 / 256) (v.front.0 / 16) (v.sync.0 / 16)

  porch_2 : digits (porch_code h v) 2 2 ≡ v.front.0 / 16 % 4
  porch_2 = field_2 (h.front.0 / 256) (h.sync.0 / 256) (v.front.0 / 16) (v.sync.0 / 16)

  porch_0 : digits (porch_code h v) 0 2 ≡ v.sync.0 / 16 % 4
  porch_0 = field_0 (h.front.0 / 256) (h.sync.0 / 256) (v.front.0 / 16) (v.sync.0 / 16)

-- a number below 1024 by its last eight digits and two above them
by_eight : (n : ℕ) → n < 1024 → low n + 256 * (n / 256 % 4) ≡ n
by_eight n h = omega arith

-- two numbers below 64 by a byte of their last four digits and two above them
by_four_first : (n m : ℕ) → n < 64 → digits (nibbles n m) 4 4 + 16 * (n / 16 % 4) ≡ n
by_four_first n m h = omega arith

by_four_second : (n m : ℕ) → m < 64 → digits (nibbles n m) 0 4 + 16 * (m / 16 % 4) ≡ m
by_four_second n m h = omega arith

module _ (h : Across) (v : Down) where
  pub across_back : AcrossFits h
      → across_of (low h.active.0) (low (across_blank h)) (uppers h.active.0 (across_blank h)) (low h.front.0) (low h.sync.0) (porch_code h v)
      ≡ Some h
  unfolding across_of back_porch
  across_back f =
      rw (
        upper_first h.active.0 (across_blank h) f.active,
        upper_second h.active.0 (across_blank h) f.blank,
        porch_6 h v,
        porch_4 h v,
        by_eight h.front.0 f.front,
        by_eight h.sync.0 f.sync,
        room h.front.0 h.sync.0 h.back.0,
        rest h.front.0 h.sync.0 h.back.0,
      )

  pub down_back : DownFits v
      → down_of (low v.active.0) (low (down_blank v)) (uppers v.active.0 (down_blank v)) (nibbles v.front.0 v.sync.0) (porch_code h v)
      ≡ Some v
  unfolding down_of back_porch
  down_back f =
      rw (
        upper_first v.active.0 (down_blank v) f.active,
        upper_second v.active.0 (down_blank v) f.blank,
        porch_2 h v,
        porch_0 h v,
        by_four_first v.front.0 v.sync.0 f.front,
        by_four_second v.front.0 v.sync.0 f.sync,
        room v.front.0 v.sync.0 v.back.0,
        rest v.front.0 v.sync.0 v.back.0,
      )

-- ---- what is read fits

abbrev pub AcrossReadFits : Option Across → Type 0
AcrossReadFits (Some h) = AcrossFits h
AcrossReadFits None = Unit

abbrev pub DownReadFits : Option Down → Type 0
DownReadFits (Some v) = DownFits v
DownReadFits None = Unit

module _ (a b f s : ℕ) (ha : a < 4096) (hb : b < 4096) where
  across_small : f < 1024 → s < 1024 → AcrossReadFits (across_with (pixels a) (pixels f) (pixels s) (option_map pixels (back_porch b f s)))
  unfolding back_porch
  across_small hf hs = go (leb (s + f) b) refl
    where
      go : (t : Bool) → leb (s + f) b ≡ t → AcrossReadFits (across_with (pixels a) (pixels f) (pixels s) (option_map pixels (back_porch b f s)))
      go true p = rw p (omega (arith, leb-true (s + f) b p))
      go false p = rw p tt

  down_small : f < 64 → s < 64 → DownReadFits (down_with (lines a) (lines f) (lines s) (option_map lines (back_porch b f s)))
  unfolding back_porch
  down_small hf hs = go (leb (s + f) b) refl
    where
      go : (t : Bool) → leb (s + f) b ≡ t → DownReadFits (down_with (lines a) (lines f) (lines s) (option_map lines (back_porch b f s)))
      go true p = rw p (omega (arith, leb-true (s + f) b p))
      go false p = rw p tt

pub across_fits : (b2 b3 b4 b8 b9 b11 : ℕ) → b2 < 256 → b3 < 256 → b8 < 256 → b9 < 256 → AcrossReadFits (across_of b2 b3 b4 b8 b9 b11)
unfolding across_of
across_fits b2 b3 b4 b8 b9 b11 h2 h3 h8 h9 =
    across_small (b2 + 256 * digits b4 4 4) (b3 + 256 * digits b4 0 4) (b8 + 256 * digits b11 6 2) (b9 + 256 * digits b11 4 2)
    (omega arith) (omega arith) (omega arith) (omega arith)

pub down_fits : (b5 b6 b7 b10 b11 : ℕ) → b5 < 256 → b6 < 256 → DownReadFits (down_of b5 b6 b7 b10 b11)
unfolding down_of
down_fits b5 b6 b7 b10 b11 h5 h6 =
    down_small (b5 + 256 * digits b7 4 4) (b6 + 256 * digits b7 0 4) (digits b10 4 4 + 16 * digits b11 2 2) (digits b10 0 4 + 16 * digits b11 0 2)
    (omega arith) (omega arith) (omega arith) (omega arith)
