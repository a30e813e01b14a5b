-- The loops over the flags, turn by turn. Assumes nothing.
use Rattle.std.specs.Prelude.{◌↔◌}
use borrow.Author.Tests.{eq-eqb, eqb-true}
use Rattle.write_leaf.specs.Digits.{both_hold}
use Prim.Native.Nat.{ℕ, ◌+◌, ◌*◌, ◌/◌, ◌%◌, ◌^◌, ◌<◌, ◌≤◌}
use mathlib.Core.Path.{◌≡◌, refl, ap, ap₂, ◌∙◌}
use mathlib.Core.Bool.{Bool, true}
use mathlib.Core.List.{List, [], ◌∷◌}
use native.Mathlib.Nat.{one-mul}
use native.Mathlib.Numerals.{add-one}
use native.Mathlib.Omega.{arith}
use lib.Dec.{eqb}
use lib.ListN.{length, get_or, take, drop, drop_of_length-le}
use lib.Seq.{drop-cons}
use lib.Pow.{pow_mono, shl_exact}
use Rattle.bits.specs.Fields.{bit}
use Rattle.fixed.specs.Fixed.{shown_whole}
use Rattle.shared_record.specs.Established.{established_timings, flags_fit}
use Rattle.shared_record.specs.Established.{EstablishedTimings}
use Rattle.standard_parts.specs.Timings.{flags_of}
use Rattle.write_head.specs.Flags.{total, WritesFlags, same_list}
use Rattle.write_head.specs.Totals.{writes_flags}

-- ---- a turn of each loop

-- two lists are the same where they are equal, and only there
pub same_is : (xs ys : List ℕ) → (same_list xs ys ≡ true) ↔ (xs ≡ ys)
same_is xs ys = (one xs ys, λ e. rw e (again ys))
  where
    again : (xs : List ℕ) → same_list xs xs ≡ true
    again [] = refl
    again (x ∷ xs) = rw (eq-eqb x x refl) (again xs)

    one : (xs ys : List ℕ) → same_list xs ys ≡ true → xs ≡ ys
    one [] [] h = refl
    one [] (y ∷ ys) h = cc
    one (x ∷ xs) [] h = cc
    one (x ∷ xs) (y ∷ ys) h = let t = both_hold (eqb x y) (same_list xs ys) h in ap₂ ◌∷◌ (eqb-true x y t.0) (one xs ys t.1)

pub total_turn : (xs : List ℕ) (i : ℕ) → i < length xs → total (drop i xs) ≡ 2 ^ (get_or xs i 0 % 17) + total (drop (i + 1) xs)
total_turn xs i h = rw (add-one, drop-cons xs i 0 h)

pub total_end : (xs : List ℕ) (i : ℕ) → length xs ≤ i → total (drop i xs) ≡ 0
total_end xs i h = rw (drop_of_length-le xs h)

pub power : (x : ℕ) → (1 * 2 ^ (x % 17) % 2 ^ 32 ≡ 2 ^ (x % 17)) × (2 ^ (x % 17) ≤ 65536)
power x =
    let small : x % 17 ≤ 16 = omega arith in
    (shl_exact 1 (x % 17) 32 (omega arith) (omega arith) ∙ one-mul (2 ^ (x % 17)), pow_mono small)

-- ---- the function

read_shown : (a b c : ℕ) (read : EstablishedTimings) → read ≡ established_timings (flags_of a b c) → take read.len read.items ≡ flags_of a b c
unfolding flags_of
read_shown a b c read e =
    ap (λ (r : EstablishedTimings). take r.len r.items) e ∙ shown_whole 17 0 (flags_of a b c) (flags_fit (bit (a + 256 * b)) (bit c 7))

-- the whole of it, step by step
pub written : (xs : List ℕ) (sum : ℕ) → sum ≡ total xs
    → (read : EstablishedTimings) → read ≡ established_timings (flags_of (sum % 256) (sum / 256 % 256) (sum / 65536 % 2 * 128))
    → (fits : Bool) → fits ≡ same_list (take read.len read.items) xs
    → WritesFlags xs fits (sum % 256, sum / 256 % 256, sum / 65536 % 2 * 128)
written xs sum is read er fits test = rw (test, read_shown _ _ _ read er, is) (writes_flags xs)
