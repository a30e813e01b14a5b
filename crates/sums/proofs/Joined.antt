-- What follows from the laws of the byte sum: of a byte changed, and of parts added one after the other.
use Rattle.std.specs.Prelude.{◌≡◌, ℕ, ◌<◌, List, [], ◌∷◌, ◌++◌, map, length, slice_index, slice_set}
use Rattle.std.proofs.Common.{sym, ap, ◌∙◌, arith}
use mathlib.Core.List.{foldl, flatten, append-nil, append_assoc}
use Rattle.sums.specs.Sum.{byte_sum}
use Rattle.sums.specs.Joined.{plus, minus, joined, changed}

-- so the sum is shifted by new minus old
pub shifted : (s : List ℕ) (i new : ℕ) → i < length s → byte_sum (slice_set s i new) ≡ plus (byte_sum s) (minus new (slice_index s i))
shifted s i new h = shift (byte_sum (slice_set s i new)) (byte_sum s) (slice_index s i) (omega arith) (changed s i new h)
  where
    shift : (after before old : ℕ) → after < 256 → plus after old ≡ plus before new → after ≡ plus before (minus new old)
    shift after before old b e = omega arith

-- the sums of any number of parts, added one after the other, are the sum of the whole
pub sum_of_parts : (ps : List (List ℕ)) → foldl plus 0 (map byte_sum ps) ≡ byte_sum (flatten ps)
unfolding flatten
sum_of_parts ps = behind [] ps
  where
    behind : (s : List ℕ) (ps : List (List ℕ)) → foldl plus (byte_sum s) (map byte_sum ps) ≡ byte_sum (s ++ flatten ps)
    behind s [] = ap byte_sum (sym (append-nil s))
    behind s (p ∷ ps) =
        ap (λ (sum : ℕ). foldl plus sum (map byte_sum ps)) (sym (joined s p)) ∙ behind (s ++ p) ps ∙ ap byte_sum (append_assoc s p (flatten ps))
