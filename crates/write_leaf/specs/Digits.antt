-- Fields put together and taken apart again, over any numbers.
use Rattle.std.specs.Prelude.{ℕ, ◌+◌, ◌*◌, ◌%◌, ◌<◌, ◌≤◌, ◌≡◌, refl, Bool, true, false, ◌&&◌, eqb}
use Rattle.std.proofs.Common.{arith, eqb-true, eq-eqb}
use Rattle.bits.specs.Fields.{digits}
use Rattle.write_leaf.specs.Bytes.{digit, low, uppers}

-- a number of twelve digits is a byte and half of another
pub upper_first : (a b : ℕ) → a < 4096 → low a + 256 * digits (uppers a b) 4 4 ≡ a
upper_first a b h = omega arith

pub upper_second : (a b : ℕ) → b < 4096 → low b + 256 * digits (uppers a b) 0 4 ≡ b
upper_second a b h = omega arith

-- four fields of two digits in a byte
abbrev pub fields : ℕ → ℕ → ℕ → ℕ → ℕ
fields x y z w = x * 64 + y * 16 + z * 4 + w

module _ (x y z w : ℕ) where
  pub field_6 : digits (fields (x % 4) (y % 4) (z % 4) (w % 4)) 6 2 ≡ x % 4
  field_6 = omega arith

  pub field_4 : digits (fields (x % 4) (y % 4) (z % 4) (w % 4)) 4 2 ≡ y % 4
  field_4 = omega arith

  pub field_2 : digits (fields (x % 4) (y % 4) (z % 4) (w % 4)) 2 2 ≡ z % 4
  field_2 = omega arith

  pub field_0 : digits (fields (x % 4) (y % 4) (z % 4) (w % 4)) 0 2 ≡ w % 4
  field_0 = omega arith

-- ---- a digit that says whether two numbers agree

pub digit_under : (b : Bool) → digit b ≤ 1
digit_under true = omega arith
digit_under false = omega arith

pub digit_true : (b : Bool) → digit b ≡ 1 → b ≡ true
digit_true true h = refl
digit_true false h = cc

pub agrees : (x : ℕ) → eqb x x ≡ true
agrees x = eq-eqb x x refl

pub digit_back : (b : Bool) → eqb (digit b) 1 ≡ b
digit_back true = refl
digit_back false = refl

-- ---- as many as there are hold, so each does

pub two_hold : (a b : Bool) → eqb (digit a + digit b) 2 ≡ true → (a ≡ true) × (b ≡ true)
two_hold a b h =
    let all = eqb-true (digit a + digit b) 2 h in
    let a1 = digit_under a in
    let b1 = digit_under b in
    (digit_true a (omega arith), digit_true b (omega arith))

pub three_hold : (a b c : Bool) → eqb (digit a + digit b + digit c) 3 ≡ true → (a ≡ true) × (b ≡ true) × (c ≡ true)
three_hold a b c h =
    let all = eqb-true (digit a + digit b + digit c) 3 h in
    let a1 = digit_under a in
    let b1 = digit_under b in
    let c1 = digit_under c in
    (digit_true a (omega arith), digit_true b (omega arith), digit_true c (omega arith))

pub four_hold : (a b c d : Bool) → eqb (digit a + digit b + digit c + digit d) 4 ≡ true → (a ≡ true) × (b ≡ true) × (c ≡ true) × (d ≡ true)
four_hold a b c d h =
    let all = eqb-true (digit a + digit b + digit c + digit d) 4 h in
    let a1 = digit_under a in
    let b1 = digit_under b in
    let c1 = digit_under c in
    let d1 = digit_under d in
    (digit_true a (omega arith), digit_true b (omega arith), digit_true c (omega arith), digit_true d (omega arith))

-- ---- two tests

pub both_hold : (a b : Bool) → (a && b) ≡ true → (a ≡ true) × (b ≡ true)
both_hold true b h = (refl, h)
both_hold false b h = (cc, cc)
