-- `pick_lines::read_number` meets its contract. The invariant: the bytes from `at` on, behind the value so far, say what all of them say. Assumes
-- nothing.
use Prim.Native.Nat.{ℕ}
use mathlib.Core.Path.{◌≡◌, refl, sym, ◌∙◌}
use mathlib.Core.Bool.{true}
use native.Mathlib.Numerals.{add-one}
use native.Mathlib.Omega.{arith}
use lib.ListN.{get_or, drop_of_length-le}
use borrow.Author.Rules.{rules}
use Rattle.pick_lines.specs.Asked.{is_digit}
use Rattle.pick_lines.proofs.Laws.{digit_bounds, no_digit, closing, another, too_large, going_on}
use Rattle.pick_lines.proofs.read_number.Goals as goal

pub loop-at-init : goal.loop-at-init
loop-at-init c = (omega arith, refl)

pub returns-then-at-from : goal.returns-then-at-from
returns-then-at-from c =
    (sym (no_digit _ _ _ _ c.loop-at.at _ (omega arith) c.if-b-end.true c.if-at-from.true) ∙ c.loop-at.invariant.1, tt)

pub returns-then-b-end : goal.returns-then-b-end
returns-then-b-end c =
    (rw add-one (sym (closing _ _ _ _ c.loop-at.at _ (omega arith) c.if-b-end.true c.if-at-from.false) ∙ c.loop-at.invariant.1), search rules)

pub returns-then-not-is_digit : goal.returns-then-not-is_digit
returns-then-not-is_digit c =
    (sym (another _ _ _ _ c.loop-at.at _ (omega arith) c.if-b-end.false (sym c.is_digit.ensures ∙ c.if-not-is_digit.true)) ∙ c.loop-at.invariant.1, tt)

pub returns-then-value-top : goal.returns-then-value-top
returns-then-value-top c =
    let byte : ℕ = get_or c.args.s.now c.loop-at.at 0 in
    let digit : is_digit (byte) ≡ true = sym c.is_digit.ensures ∙ c.if-not-is_digit.false in
    (sym (too_large _ _ _ _ c.loop-at.at _ (omega arith) c.if-b-end.false (digit) c.if-value-top.true) ∙ c.loop-at.invariant.1, tt)

pub loop-at-preserved : goal.loop-at-preserved
loop-at-preserved c =
    let byte : ℕ = get_or c.args.s.now c.loop-at.at 0 in
    let digit : is_digit (byte) ≡ true = sym c.is_digit.ensures ∙ c.if-not-is_digit.false in
    (c.if-value-top.false, rw add-one (sym (going_on _ _ _ _ c.loop-at.at _ (omega arith) c.if-b-end.false (digit) c.if-value-top.false) ∙ c.loop-at.invariant.1))

pub returns : goal.returns
returns c =
    (rw (drop_of_length-le c.args.s.now {i = c.loop-at.at} (omega arith)) at c.loop-at.invariant.1, tt)

pub overflow_sub-value : goal.overflow_sub-value
overflow_sub-value c =
    let byte : ℕ = get_or c.args.s.now c.loop-at.at 0 in
    let digit : is_digit (byte) ≡ true = sym c.is_digit.ensures ∙ c.if-not-is_digit.false in
    (digit_bounds (byte) (digit)).0

pub overflow_cast-value : goal.overflow_cast-value
overflow_cast-value c =
    let byte : ℕ = get_or c.args.s.now c.loop-at.at 0 in
    let digit : is_digit (byte) ≡ true = sym c.is_digit.ensures ∙ c.if-not-is_digit.false in
    let b = digit_bounds (byte) (digit) in search rules

pub overflow_add-value : goal.overflow_add-value
overflow_add-value c =
    let byte : ℕ = get_or c.args.s.now c.loop-at.at 0 in
    let digit : is_digit (byte) ≡ true = sym c.is_digit.ensures ∙ c.if-not-is_digit.false in
    let b = digit_bounds (byte) (digit) in search rules
