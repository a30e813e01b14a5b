-- The sum of what is left of a list, as the loop asks it. Assumes nothing.
use Rattle.std.proofs.Common.{◌≡◌, ℕ, ◌+◌, ◌<◌, List, length, get_or, drop, add-one, drop-cons}
use Rattle.sums.specs.Sum.{total}

pub total_step : (s : List ℕ) (i : ℕ) → i < length s → total (drop i s) ≡ get_or s i 0 + total (drop (i + 1) s)
total_step s i h = rw (add-one, drop-cons s i 0)
