-- Whole numbers below 2 ^ 24 as f32: their sum is exact, and their quotient is the f32 nearest to the fraction.
use Rattle.std.specs.Prelude.{ℕ, ◌+◌, ◌*◌, ◌^◌, ◌<◌, ◌≡◌, false, Float}
use Rattle.std.proofs.Common.{sym, ap, ◌∙◌, subst, arith, lt_trans, lt_irrefl, mul-one, mul-pos, mul_comm, mul_assoc, zero-mul, add-mul, shl_lt, ne_eqb}
use Rattle.std.proofs.Math.Pow.{pow-lt}
use Rattle.std.specs.Float.{nan, inf, fin, binary32}
use Rattle.std.specs.Float.Ieee.{low, up, down, round, sum, add, div, of_int}
use Rattle.std.specs.Float.Ieee.Fits.{down_pos}
use Rattle.std.specs.Float.Ieee.Exact.{HasValue, round_exact}
use Rattle.std.specs.Float.Ieee.Scale.{round_same}
use Rattle.crate_record.specs.Single.{whole}

-- f32 holds n
exact : (n : ℕ) → n < 2 ^ 24 → HasValue (whole n) false n 1
unfolding of_int
exact n h =
    round_exact binary32 false n 1 n (low binary32) (omega arith) h
    (lt_trans (shl_lt 24 (low binary32) h) (pow-lt {i = 173} {j = 277} (omega arith))) (sym (mul-one (n * 2 ^ low binary32)))

-- x is a times c, and y is b times d
module _ (a b c d x y : ℕ) (p : x * 1 ≡ a * c) (q : y * 1 ≡ b * d) where
  over : x ≡ a * c
  over = sym (mul-one x) ∙ p

  under : y ≡ b * d
  under = sym (mul-one y) ∙ q

  crossed : x * d * b ≡ a * (y * c)
  crossed =
      rw (over, under)
      (mul_assoc (a * c) d b ∙ mul_assoc a c (d * b) ∙ ap (λ (k : ℕ). a * k) (mul_comm c (d * b) ∙ ap (λ (k : ℕ). k * c) (mul_comm d b)))

  together : (x * d + y * c) * 1 ≡ (a + b) * (c * d)
  together = rw (mul-one, over, under, add-mul, mul_assoc a c d, mul_assoc b d c, mul_comm d c)

quotient_of : (a b : ℕ) (x y : Float) → 0 < b → HasValue x false a 1 → HasValue y false b 1 → div binary32 x y ≡ round binary32 false a b
unfolding div
quotient_of a b nan y h p q = absurd p
quotient_of a b (inf s) y h p q = absurd p
quotient_of a b (fin s m e) nan h p q = absurd q
quotient_of a b (fin s m e) (inf t) h p q = absurd q
quotient_of a b (fin s m e) (fin t n d) h p q =
    let some : 0 < n * up d = subst (λ (k : ℕ). 0 < k) (sym (under a b (down e) (down d) (m * up e) (n * up d) p.1 q.1)) (mul-pos h (down_pos d)) in
    let not_zero : n ≡ 0 → ⊥ = λ z. lt_irrefl 0 (subst (λ (k : ℕ). 0 < k) (ap (λ (k : ℕ). k * up d) z ∙ zero-mul (up d)) some) in
    rw (p.0, q.0, ne_eqb n 0 not_zero)
    (round_same binary32 false (m * up e * down d) (n * up d * down e) a b (mul-pos some (down_pos e)) h
    (crossed a b (down e) (down d) (m * up e) (n * up d) p.1 q.1))

sum_of : (a b : ℕ) (x y : Float) → HasValue x false a 1 → HasValue y false b 1 → add binary32 x y ≡ round binary32 false (a + b) 1
unfolding add sum
sum_of a b nan y p q = absurd p
sum_of a b (inf s) y p q = absurd p
sum_of a b (fin s m e) nan p q = absurd q
sum_of a b (fin s m e) (inf t) p q = absurd q
sum_of a b (fin s m e) (fin t n d) p q =
    rw (p.0, q.0)
    (round_same binary32 false (m * up e * down d + n * up d * down e) (down e * down d) (a + b) 1 (mul-pos (down_pos e) (down_pos d)) (omega arith)
    (together a b (down e) (down d) (m * up e) (n * up d) p.1 q.1))

-- a / b
pub quotient : (a b : ℕ) → a < 2 ^ 24 → 0 < b → b < 2 ^ 24 → div binary32 (whole a) (whole b) ≡ round binary32 false a b
quotient a b h p l = quotient_of a b (whole a) (whole b) p (exact a h) (exact b l)

-- a + b
pub sum_whole : (a b : ℕ) → a < 2 ^ 24 → b < 2 ^ 24 → add binary32 (whole a) (whole b) ≡ whole (a + b)
unfolding of_int
sum_whole a b h l = sum_of a b (whole a) (whole b) (exact a h) (exact b l)

-- n times b, by b
pub quotient_whole : (n b : ℕ) → n * b < 2 ^ 24 → 0 < b → b < 2 ^ 24 → div binary32 (whole (n * b)) (whole b) ≡ whole n
unfolding of_int
quotient_whole n b h p l = quotient (n * b) b h p l ∙ round_same binary32 false (n * b) b n 1 p (omega arith) (mul-one (n * b))
