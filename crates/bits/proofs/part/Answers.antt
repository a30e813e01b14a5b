-- `bits::part` meets its contract: past the end nothing is left, and of fewer bytes than n all are taken. Assumes nothing.
use Prim.Native.Nat.{ℕ, ◌-◌, ◌≤◌}
use mathlib.Core.List.{List}
use mathlib.Core.Path.{◌≡◌, sym, ap, ◌∙◌}
use native.Mathlib.Numerals.{unary_clauses}
use native.Mathlib.Omega.{arith}
use lib.ListN.{length, take, drop, length-drop, drop_of_length-le}
use lib.Seq.{take-nil, take_all}
use Rattle.bits.proofs.part.Goals as goal

-- the bytes from k on, as the slice `&s[k..]` has them
all : (s : List ℕ) (k n : ℕ) → length s - k ≤ n → take n (drop k s) ≡ drop k s
all s k n h = take_all n (drop k s) (omega (arith, length-drop k s))

pub returns-then-k-s : goal.returns-then-k-s
returns-then-k-s c =
    sym (ap (take c.args.n) (drop_of_length-le c.args.s.now c.if-k-s.true) ∙ take-nil c.args.n)

pub returns-then-n-rest : goal.returns-then-n-rest
returns-then-n-rest c =
    simp unary_clauses (rw (all c.args.s.now c.args.k (length c.args.s.now - c.args.k) (omega arith)))

pub returns-else-n-rest : goal.returns-else-n-rest
returns-else-n-rest c =
    let s = c.args.s.now in
    all s c.args.k (length s - c.args.k) (omega arith) ∙ sym (all s c.args.k c.args.n (omega (arith, length-drop c.args.k s)))
