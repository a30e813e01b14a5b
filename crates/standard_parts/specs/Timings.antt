-- Timings: the established flags, and the pairs of a standard timing. σ is the structure.
use Rattle.std.specs.Prelude.{ℕ, ◌+◌, ◌*◌, ◌&&◌, cond, List, ◌++◌, eqb, Option, Some, None}
use Rattle.bits.specs.Fields.{digits, bit, by_code}
use Rattle.fixed.specs.Gather.{gather, when}
use Rattle.standard_record.specs.declared.Ratio.{Ratio}
use Rattle.standard_record.specs.declared.StandardTiming.{StandardTiming}
use Rattle.standard_parts.specs.declared.Structure.{Structure}
use Rattle.standard_parts.specs.declared.Structure.TheVariants.{Below3, From3, From4}

-- the numbers of the flags that are set: bytes 35 and 36 as one word, digit 0 first, then digit 7 of byte 37
unfoldable pub flags_of : ℕ → ℕ → ℕ → List ℕ
flags_of b35 b36 b37 = gather (λ k. when (bit (b35 + 256 * b36) k) k) 16 ++ when (bit b37 7) 16

abbrev pub ratio : ℕ → ℕ → Ratio
ratio w h = record { width = w; height = h }

-- of code 0: 16:10 came with revision 3
abbrev pub first_ratio : Structure → Ratio
first_ratio Below3 = ratio 1 1
first_ratio From3 = ratio 16 10
first_ratio From4 = ratio 16 10

abbrev pub ratio_of : Structure → ℕ → Ratio
ratio_of σ code = by_code code (first_ratio σ) (ratio 4 3) (ratio 5 4) (ratio 16 9)

-- 01 01 is no timing
unfoldable pub pair_of : Structure → ℕ → ℕ → Option StandardTiming
pair_of σ low high =
    cond (eqb low 1 && eqb high 1) None
    (Some (record { width = (low + 31) * 8; ratio = ratio_of σ (digits high 6 2); rate = digits high 0 6 + 60 }))
