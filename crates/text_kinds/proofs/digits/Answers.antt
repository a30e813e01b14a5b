-- `text_kinds::digits` meets its contract. The invariant: what is left stands for the number, behind the digits read. Assumes nothing.
use Rattle.std.specs.Prelude.{ℕ, ◌+◌, ◌-◌, ◌*◌, ◌<◌, ◌≤◌, ◌≡◌, true, None, List, [], ◌∷◌, length, get_or, drop}
use Rattle.std.proofs.Common.{◌∙◌, arith, le-leb, add-one, drop-cons, drop_of_length-le}
use Rattle.std.proofs.Math.Bool.{and-false}
use Rattle.std.proofs.lemmas.Bool.{lt-leb}
use Rattle.text_kinds.specs.Kinds.{all_digits, value}
use Rattle.text_kinds.specs.Answers.{digits_in}
use Rattle.text_kinds.proofs.digits.Goals as goal

value_grows : (v : ℕ) (w : List ℕ) → v ≤ value v w
value_grows v [] = omega arith
value_grows v (b ∷ w) = omega (arith, value_grows (10 * v + (b - 48)) w)

leb-not : {a b : ℕ} → (a < b → ⊥) → b ≤ a
leb-not {a} {b} h = omega (arith, h)

module _ (w : List ℕ) (i v : ℕ) (is : value 0 w ≡ value v (drop i w)) where
  next : i < length w → value 0 w ≡ value (10 * v + (get_or w i 0 - 48)) (drop (i + 1) w)
  next h = rw (drop-cons w i 0 h, ← add-one) at is

  too_large : i < length w → 4294967295 < 10 * v + (get_or w i 0 - 48) → None ≡ digits_in w
  too_large h over = rw (lt-leb (value 0 w) 4294967295 (omega (arith, next h, value_grows (10 * v + (get_or w i 0 - 48)) (drop (i + 1) w))), and-false (all_digits w))

pub returns-in_err-checked_mul : goal.returns-in_err-checked_mul
returns-in_err-checked_mul c =
    let over = rw c.in_err-checked_mul.was at c.checked_mul.ensures in
    let large : 4294967296 ≤ c.loop-b.value * 10 = leb-not over in
    c.from_residual.ensures ∙ too_large _ _ _ c.loop-b.invariant.is c.loop-b-test.true (omega (arith, large))

pub returns-in_err-value : goal.returns-in_err-value
returns-in_err-value c =
    let ten = rw c.in_ok-checked_mul.was at c.checked_mul.ensures in
    let over = rw c.in_err-value.was at c.checked_add.ensures in
    let large : 4294967296 ≤ c.in_ok-checked_mul.field-0 + (get_or c.args.w.now c.loop-b.b-index 0 - 48) = leb-not over in
    c.from_residual-in_err-value.ensures ∙ too_large _ _ _ c.loop-b.invariant.is c.loop-b-test.true (omega (arith, large, ten.1))

pub returns : goal.returns
returns c =
    let w = c.args.w.now in
    let i = c.loop-b.invariant in
    let none : drop c.loop-b.b-index w ≡ [] = drop_of_length-le w c.loop-b-test.false in
    let is : value 0 w ≡ c.loop-b.value = rw none at i.is in
    let all : all_digits w ≡ true = rw none at i.all in
    rw (all, is, le-leb c.loop-b.value 4294967295 i.fits)
