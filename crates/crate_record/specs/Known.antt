-- What the definitions of `Single` come to: antt computes each.
use Rattle.std.specs.Prelude.{◌≡◌, refl, false, List, [], ◌∷◌, ℕ, ◌*◌, Float}
use Rattle.std.specs.Float.{binary32}
use Rattle.std.specs.Float.Ieee.{of_bits, to_bits, of_int, add, div, round}
use Rattle.crate_record.specs.Single.{f0, f1, f2, f3, f4, f5, f9, f10, f16, f100, f1024, f0·7, f0·3, f0·714, f0·286, f0·4, gamma_of, chroma_of, tenths_of, half_of, ratio_of}

-- ---- the constants: each is the f32 nearest to its decimal, which is what Rust makes of the literal

pub record Literal : Type 0 where
  pub is : Float
  pub num : ℕ
  pub den : ℕ

abbrev pub Nearest : List Literal → Type 0
Nearest [] = Unit {0}
Nearest (l ∷ ls) = (l.is ≡ round binary32 false l.num l.den) × Nearest ls

abbrev pub literals : List Literal
literals =
    (record { is = f0; num = 0; den = 1 }) ∷
    (record { is = f1; num = 1; den = 1 }) ∷
    (record { is = f2; num = 2; den = 1 }) ∷
    (record { is = f3; num = 3; den = 1 }) ∷
    (record { is = f4; num = 4; den = 1 }) ∷
    (record { is = f5; num = 5; den = 1 }) ∷
    (record { is = f9; num = 9; den = 1 }) ∷
    (record { is = f10; num = 10; den = 1 }) ∷
    (record { is = f16; num = 16; den = 1 }) ∷
    (record { is = f100; num = 100; den = 1 }) ∷
    (record { is = f1024; num = 1024; den = 1 }) ∷
    (record { is = f0·7; num = 7; den = 10 }) ∷
    (record { is = f0·3; num = 3; den = 10 }) ∷
    (record { is = f0·714; num = 714; den = 1000 }) ∷
    (record { is = f0·286; num = 286; den = 1000 }) ∷
    (record { is = f0·4; num = 4; den = 10 }) ∷
    []

pub right : Nearest literals
unfolding of_bits round
right = (refl, (refl, (refl, (refl, (refl, (refl, (refl, (refl, (refl, (refl, (refl, (refl, (refl, (refl, (refl, (refl, tt))))))))))))))))

-- ---- worked values, as entries of one list under one claim

pub record Worked : Type 0 where
  pub value : Float
  pub bits : ℕ

abbrev pub Bits : List Worked → Type 0
Bits [] = Unit {0}
Bits (w ∷ ws) = (to_bits binary32 w.value ≡ w.bits) × Bits ws

abbrev pub worked : List Worked
worked =
    (record { value = gamma_of 0x64; bits = 0x4000_0000 }) ∷
    (record { value = gamma_of 0x00; bits = 0x3f80_0000 }) ∷
    (record { value = chroma_of (0x80 * 4); bits = 0x3f00_0000 }) ∷
    (record { value = tenths_of 180; bits = 0x4190_0000 }) ∷
    (record { value = half_of 1; bits = 0x3f00_0000 }) ∷
    (record { value = ratio_of 2; bits = 0x3fa0_0000 }) ∷
    []

pub known : Bits worked
unfolding of_bits to_bits of_int add div
known = (refl, (refl, (refl, (refl, (refl, (refl, tt))))))
