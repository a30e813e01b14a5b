-- Laws of the layouts' parts: zero bytes, and the panel number. Which bytes have a layout is in proofs/Layouts.
use Rattle.std.specs.Prelude.{ℕ, zero, suc, ◌+◌, ◌*◌, ◌/◌, ◌^◌, ◌≤◌, ◌<◌, ◌≡◌, refl, true, List, [], ◌∷◌, eqb, length, take, drop}
use Rattle.std.proofs.Common.{ap, ap₂, ◌∙◌, arith, eqb-true, length-drop, drop-cons, length-take-le}
use Rattle.bits.specs.Bytes.{◌!◌, part}
use Rattle.write_leaf.specs.Bytes.{Bytes}
use Rattle.write_leaf.specs.Digits.{both_hold}
use Rattle.write_leaf.specs.Again.{take_bytes}
use Rattle.register.specs.Register.{zeros, little_endian, number_of, panel_of, all_zero}

-- ---- zero bytes

pub zeros_by : (t : List ℕ) (n : ℕ) → length t ≡ n → all_zero t ≡ true → t ≡ zeros n
zeros_by [] zero e h = refl
zeros_by [] (suc n) e h = absurd (omega arith)
zeros_by (b ∷ t) zero e h = absurd (omega arith)
zeros_by (b ∷ t) (suc n) e h =
    let z = both_hold (eqb b 0) (all_zero t) h in
    ap₂ ◌∷◌ (eqb-true b 0 z.0) (zeros_by t n (omega arith) z.1)

-- ---- the panel number

pub same_bytes : (s : List ℕ) → Bytes s → little_endian (length s) (number_of s) ≡ s
same_bytes [] h = refl
same_bytes (b ∷ s) h =
    let low = h 0 in
    let rest : (b + 256 * number_of s) / 256 ≡ number_of s = omega arith in
    ap₂ ◌∷◌ (omega arith) (ap (little_endian (length s)) rest ∙ same_bytes s (λ i. h (suc i)))

pub same_number : (width n : ℕ) → n < 256 ^ width → number_of (little_endian width n) ≡ n
same_number zero n h = omega arith
same_number (suc width) n h = rw (same_number width (n / 256) (omega arith)) (omega arith)

number_under : (s : List ℕ) → Bytes s → number_of s < 256 ^ length s
number_under [] h = omega arith
number_under (b ∷ s) h =
    let low = h 0 in
    let rest = number_under s (λ i. h (suc i)) in
    let all : b + 256 * number_of s < 256 ^ suc (length s) = omega arith in
    all

pub panel_under : (s : List ℕ) → Bytes s → 4 ≤ length s → panel_of s < 2 ^ 32
panel_under s h n = rw (length-take-le 4 s n) at (number_under (take 4 s) (take_bytes 4 s h))

-- ---- the layouts

-- the byte at 4, then three
pub four_are : (s : List ℕ) → 8 ≤ length s → part s 4 4 ≡ s ! 4 ∷ part s 5 3
four_are s n = ap (take 4) (drop-cons s 4 0 (omega arith))

pub part_length : (s : List ℕ) (k n : ℕ) → k + n ≤ length s → length (part s k n) ≡ n
part_length s k n h = length-take-le n (drop k s) (omega (arith, length-drop k s))
