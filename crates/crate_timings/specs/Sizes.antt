-- How many bytes the flags and n pairs take, and how much they list at the most.
use Rattle.std.specs.Prelude.{ℕ, zero, suc, ◌*◌, ◌≤◌, ◌≡◌, List, ◌++◌, length, Option, Some, None}
use Rattle.std.proofs.Common.{arith}
use Rattle.bits.specs.Fields.{bit}
use Rattle.steps.specs.Leaves.{byte, word}
use Rattle.steps.specs.Answers.{Ends, ends_then, takes_byte, takes_word}
use Rattle.shared_record.specs.Established.{flags_fit}
use Rattle.crate_record.specs.declared.StandardTiming.{StandardTiming}
use Rattle.crate_timings.specs.Established.{flags_of, established}
use Rattle.crate_timings.specs.Pairs.{pair_of, pair, listed, pairs}

pub ends_established : Ends (λ xs m. (length xs ≤ 17) × (m ≡ 3)) established
unfolding established flags_of
ends_established =
    ends_then word _ (λ w m. (2 ≤ m) × (m ≤ 2)) _ takes_word
    (λ ft m q. ends_then byte _ (λ b k. (1 ≤ k) × (k ≤ 1)) _ takes_byte (λ last k r. (flags_fit (bit ft) (bit last 7), omega arith)))

pair_at_most : (p : Option StandardTiming) (xs : List StandardTiming) (n : ℕ) → length xs ≤ n → length (listed p ++ xs) ≤ suc n
pair_at_most None xs n h = omega arith
pair_at_most (Some t) xs n h = omega arith

pub ends_pairs : (n : ℕ) → Ends (λ xs m. (length xs ≤ n) × (m ≡ n * 2)) (pairs n)
unfolding pairs pair byte
ends_pairs zero = (omega arith, omega arith)
ends_pairs (suc n) =
    λ low high. ends_then (pairs n) _ (λ xs k. (length xs ≤ n) × (k ≡ n * 2)) _ (ends_pairs n)
    (λ xs k q. (pair_at_most (pair_of low high) xs n q.0, omega arith))
