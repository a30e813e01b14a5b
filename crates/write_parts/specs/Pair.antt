-- The two bytes of a standard timing. 01 01 is read as none, so what it would stand for is not written. They are the same for every structure σ,
-- but not what they are read as.
use Rattle.std.specs.Prelude.{ℕ, ◌+◌, ◌*◌, ◌/◌, ◌%◌, ◌≡◌, Bool, false, eqb, None, Option, Some}
use Rattle.standard_record.specs.declared.Ratio.{Ratio}
use Rattle.standard_record.specs.declared.StandardTiming.{StandardTiming}
use Rattle.standard_parts.specs.Timings.{pair_of}
use Rattle.standard_parts.specs.declared.Structure.{Structure}
use Rattle.write_leaf.specs.Bytes.{digit}
use Rattle.write_leaf.specs.Leaf.{Writes, Two, BothBytes}

-- of a ratio that has none it is no matter: the bytes are then read as another
abbrev pub ratio_code : Ratio → ℕ
ratio_code r = (digit (eqb r.width 4) + 2 * digit (eqb r.width 5) + 3 * digit (eqb r.height 9)) % 4

-- less 31, modulo 256
abbrev pub pair_low : StandardTiming → ℕ
pair_low v = (v.width / 8 + 225) % 256

-- less 60, modulo 64
abbrev pub pair_high : StandardTiming → ℕ
pair_high v = ratio_code v.ratio * 64 + (v.rate % 64 + 4) % 64

-- both
abbrev pub pair_bytes : StandardTiming → Two
pair_bytes v = (pair_low v, pair_high v)

-- two bytes that are read as v
abbrev pub ReadsPair : Structure → Two → StandardTiming → Type 0
ReadsPair σ s v = pair_of σ s.0 s.1 ≡ Some v

abbrev pub WritesPair : Structure → StandardTiming → Bool → Two → Type 0
WritesPair σ = Writes BothBytes (ReadsPair σ) pair_bytes

-- ---- the test that the code makes: the bytes are read again, and each field compared

abbrev pub same_timing : StandardTiming → StandardTiming → Bool
same_timing w v =
    eqb (digit (eqb w.width v.width) + digit (eqb w.ratio.width v.ratio.width) + digit (eqb w.ratio.height v.ratio.height) + digit (eqb w.rate v.rate)) 4

abbrev pub same_pair : Option StandardTiming → StandardTiming → Bool
same_pair None v = false
same_pair (Some w) v = same_timing w v
