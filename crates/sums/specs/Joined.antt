-- Laws of the byte sum: of no bytes, of parts joined, of one byte changed, and of the byte that makes it zero.
use Rattle.std.specs.Prelude.{◌≡◌, ℕ, zero, suc, ◌+◌, ◌-◌, ◌%◌, ◌<◌, ◌≤◌, List, [], ◌∷◌, ◌++◌, length, slice_index, slice_set, refl}
use Rattle.std.proofs.Common.{ap, arith}
use Rattle.std.proofs.Math.Seq.{set_out}
use Rattle.sums.specs.Sum.{total, byte_sum}

-- plus and minus, modulo 256
abbrev pub plus : ℕ → ℕ → ℕ
plus a b = (a + b) % 256

abbrev pub minus : ℕ → ℕ → ℕ
minus a b = (a + 256 - b % 256) % 256

-- the byte that, put behind s, makes the sum zero
abbrev pub checksum : List ℕ → ℕ
checksum s = minus 0 (byte_sum s)

-- ---- of the sum that does not wrap

total_joined : (a b : List ℕ) → total (a ++ b) ≡ total a + total b
total_joined [] b = omega arith
total_joined (x ∷ a) b = omega (arith, total_joined a b)

-- ---- the three laws, of lists of any numbers

pub empty : byte_sum [] ≡ 0
empty = refl

pub joined : (a b : List ℕ) → byte_sum (a ++ b) ≡ plus (byte_sum a) (byte_sum b)
joined a b = omega (arith, total_joined a b)

-- the new byte in, the old one out
pub changed : (s : List ℕ) (i new : ℕ) → i < length s → plus (byte_sum (slice_set s i new)) (slice_index s i) ≡ plus (byte_sum s) new
changed s i new h = omega (arith, total_changed s i new h)
  where
    total_changed : (s : List ℕ) (i new : ℕ) → i < length s → total (slice_set s i new) + slice_index s i ≡ total s + new
    total_changed [] i new h = absurd (omega arith)
    total_changed (x ∷ s) zero new h = omega arith
    total_changed (x ∷ s) (suc i) new h = omega (arith, total_changed s i new (omega arith))

-- a place outside changes nothing
pub outside : (s : List ℕ) (i new : ℕ) → length s ≤ i → byte_sum (slice_set s i new) ≡ byte_sum s
outside s i new h = ap byte_sum (set_out s i new h)

-- ---- what is done with them

-- the checksum is a byte, it makes the sum zero, and no other byte does
pub checksum_makes_zero : (s : List ℕ) → (checksum s < 256) × (byte_sum (s ++ checksum s ∷ []) ≡ 0)
checksum_makes_zero s = (omega arith, omega (arith, total_joined s (checksum s ∷ [])))

pub only_the_checksum : (s : List ℕ) (b : ℕ) → b < 256 → byte_sum (s ++ b ∷ []) ≡ 0 → b ≡ checksum s
only_the_checksum s b h z = omega (arith, total_joined s (b ∷ []))
