-- Standard timings: pairs of bytes.
use Rattle.std.specs.Prelude.{ℕ, zero, suc, ◌+◌, ◌*◌, ◌&&◌, cond, List, [], ◌∷◌, ◌++◌, eqb, Option, Some, None}
use Rattle.fixed.specs.Fixed.{push}
use Rattle.bits.specs.Fields.{digits}
use Rattle.steps.specs.Steps.{Steps, done, ◌>>=◌}
use Rattle.steps.specs.Leaves.{byte}
use Rattle.crate_record.specs.Single.{ratio_of}
use Rattle.crate_record.specs.declared.StandardTiming.{StandardTiming}
use Rattle.crate_record.specs.Lists.{StandardTimings}

unfoldable pub standard_timing_of : ℕ → ℕ → StandardTiming
standard_timing_of low high =
    record { ratio = ratio_of (digits high 6 2); width = (low + 31) * 8; rate = digits high 0 6 + 60 }

-- 01 01 is skipped
unfoldable pub pair_of : ℕ → ℕ → Option StandardTiming
pair_of low high = cond (eqb low 1 && eqb high 1) None (Some (standard_timing_of low high))

unfoldable pub pair : Steps (Option StandardTiming)
pair = do
  low ← byte
  high ← byte
  done (pair_of low high)

-- what a pair lists
abbrev pub listed : Option StandardTiming → List StandardTiming
listed None = []
listed (Some t) = t ∷ []

-- n pairs
unfoldable pub pairs : ℕ → Steps (List StandardTiming)
pairs zero = done []
pairs (suc n) = do
  p ← pair
  xs ← pairs n
  done (listed p ++ xs)

-- ---- the same onto a list, as the code fills it

abbrev pub with_pair : StandardTimings → Option StandardTiming → StandardTimings
with_pair l None = l
with_pair l (Some t) = push 26 l t

unfoldable pub fill_pairs : ℕ → StandardTimings → Steps StandardTimings
fill_pairs zero l = done l
fill_pairs (suc n) l = do
  p ← pair
  fill_pairs n (with_pair l p)
