-- For the proof of `read_number`: what a byte does to the number, by its tests.
use Prim.Native.Nat.{ℕ, suc, ◌+◌, ◌-◌, ◌*◌, ◌<◌, ◌≤◌}
use mathlib.Core.Path.{◌≡◌, refl}
use mathlib.Core.Bool.{Bool, true, false, cond, false≢true}
use mathlib.Core.List.{List}
use lib.Dec.{ltb}
use lib.ListN.{length, drop, get_or}
use lib.Seq.{drop-cons}
use borrow.Author.Tests.{ltb-true, ltb-false, le-leb, lt-leb, eq-eqb, ne_eqb}
use Rattle.pick_lines.specs.Asked.{is_digit, number_in}
use Rattle.pick_lines.specs.declared.Number.{Number}
use Rattle.std.specs.Prelude.{Option, None, Some}

pub digit_bounds : (b : ℕ) → is_digit b ≡ true → (48 ≤ b) × (b < 58)
digit_bounds b d = go (ltb b 48) refl d
  where
    go : (t : Bool) → ltb b 48 ≡ t → cond t false (ltb b 58) ≡ true → (48 ≤ b) × (b < 58)
    go true e d = absurd (false≢true d)
    go false e d = (ltb-false b 48 e, ltb-true b 58 d)

module _ (top end from value at : ℕ) (s : List ℕ) (h : at < length s) where
  abbrev here : Option Number
  here = number_in top end from value at (drop at s)

  abbrev longer : ℕ
  longer = value * 10 + (get_or s at 0 - 48)

  pub no_digit : get_or s at 0 ≡ end → at ≡ from → here ≡ None
  no_digit e f = rw (drop-cons s at 0 h, eq-eqb (get_or s at 0) end e, eq-eqb at from f)

  pub closing : get_or s at 0 ≡ end → (at ≡ from → ⊥) → here ≡ Some (record { value = value; next = suc at })
  closing e f = rw (drop-cons s at 0 h, eq-eqb (get_or s at 0) end e, ne_eqb at from f)

  module _ (n : get_or s at 0 ≡ end → ⊥) where
    pub another : is_digit (get_or s at 0) ≡ false → here ≡ None
    another d = rw (drop-cons s at 0 h, ne_eqb (get_or s at 0) end n, d)

    pub too_large : is_digit (get_or s at 0) ≡ true → top < longer → here ≡ None
    too_large d l = rw (drop-cons s at 0 h, ne_eqb (get_or s at 0) end n, d, lt-leb longer top l)

    pub going_on : is_digit (get_or s at 0) ≡ true → longer ≤ top → here ≡ number_in top end from longer (suc at) (drop (suc at) s)
    going_on d l = rw (drop-cons s at 0 h, ne_eqb (get_or s at 0) end n, d, le-leb longer top l)
