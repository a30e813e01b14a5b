-- `register::all_zero` meets its contract. The invariant: no digit was seen, and all that is left is zero, where the whole is. Assumes nothing.
use Prim.Native.Nat.{ℕ, zero, suc, ◌+◌, ◌<◌}
use mathlib.Core.Path.{◌≡◌, refl, sym, ◌∙◌}
use mathlib.Core.Bool.{false, ◌&&◌, and-true}
use mathlib.Core.List.{List}
use native.Mathlib.Numerals.{add-one}
use native.Mathlib.Omega.{arith}
use borrow.Author.Rules.{rules}
use borrow.Author.Tests.{ne_eqb}
use lib.Bits.{bit_or, or_add_and, and_le_r}
use lib.Dec.{eqb}
use lib.ListN.{length, get_or, drop, drop_of_length-le}
use lib.Seq.{drop-cons}
use Rattle.register.specs.Register.{all_zero}
use Rattle.register.proofs.all_zero.Goals as goal

-- a digit that was seen stays
or_seen : (n b : ℕ) → eqb (bit_or (suc n) b) 0 ≡ false
or_seen n b = ne_eqb (bit_or (suc n) b) 0 (λ e. absurd (omega (arith, or_add_and (suc n) b, and_le_r (suc n) b)))

one_more : (s : List ℕ) (seen i : ℕ) → i < length s → (eqb seen 0 && all_zero (drop i s)) ≡ (eqb (bit_or seen (get_or s i 0)) 0 && all_zero (drop (i + 1) s))
one_more s zero i h = rw (drop-cons s i 0 h, add-one) refl
one_more s (suc n) i h = rw (or_seen, ne_eqb (suc n) 0 (λ e. absurd (omega arith))) refl

pub loop-b-preserved : goal.loop-b-preserved
loop-b-preserved c = c.loop-b.invariant ∙ one_more c.args.s.now c.loop-b.seen c.loop-b.b-index (search rules)

pub returns : goal.returns
returns c =
    sym (rw (drop_of_length-le c.args.s.now {i = c.loop-b.b-index} (search rules), and-true) at c.loop-b.invariant)
