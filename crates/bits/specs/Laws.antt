-- Laws of `digits` that callers cite.
use Rattle.std.specs.Prelude.{ℕ, ◌/◌, ◌%◌, ◌^◌, ◌≡◌}
use Rattle.std.proofs.Common.{ap, div-one, mod-lt, mod-eq_of_lt, pow_pos}
use Rattle.bits.specs.Fields.{digits}

-- the last digits of a number
pub last_digits : (b j : ℕ) → digits b 0 j ≡ b % 2 ^ j
last_digits b j = ap (λ (x : ℕ). x % 2 ^ j) (div-one b)

-- j digits have no more than j digits
pub digits_under : (b k j : ℕ) → digits b k j % 2 ^ j ≡ digits b k j
digits_under b k j = mod-eq_of_lt (mod-lt (b / 2 ^ k) (pow_pos j))
