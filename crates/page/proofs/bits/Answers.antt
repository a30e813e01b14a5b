-- `page::bits` meets its contract. A float that equals itself is no NaN, and one that does not is. Assumes nothing.
use mathlib.Core.Path.{◌≡◌, sym, ap, subst}
use mathlib.Core.Bool.{Bool, true, false, not}
use lib.Dec.{T}
use lib.Ieee.{Float, nan, inf, fin, binary32, eq, ne, is_nan, to_bits}
use lib.Ieee.Compare.{differs_from_itself}
use Rattle.page.proofs.bits.Goals as goal

no_nan : (x : Float) → eq x x ≡ true → T (not (is_nan x))
unfolding eq is_nan
no_nan nan h = subst T (sym h) tt
no_nan (inf s) h = tt
no_nan (fin s m e) h = tt

a_nan : (x : Float) → eq x x ≡ false → x ≡ nan
unfolding ne
a_nan x h = differs_from_itself x (subst (λ (b : Bool). T (not b)) (sym h) tt)

pub float_to_bits-result : goal.float_to_bits-result
float_to_bits-result c = no_nan c.args.x c.if-x.true

pub returns-else-x : goal.returns-else-x
unfolding to_bits
returns-else-x c = sym (ap (to_bits binary32) (a_nan c.args.x c.if-x.false))
