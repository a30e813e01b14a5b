-- What follows where all that is judged before the data blocks has passed.
use Rattle.std.specs.Prelude.{ℕ, ◌≤◌, ◌≡◌, Ok}
use Rattle.std.proofs.Common.{sym}
use mathlib.Core.List.{List}
use Rattle.cta_reading.specs.Along.{clash}
use Rattle.cta_reading.specs.Cta.{offset_in, before_blocks}
use Rattle.cta_reading.specs.Judged.{offset_below, Head, before_by}

module _ (s : List ℕ) where
  pub head_of : before_blocks s ≡ Ok tt → Head s
  head_of =
      before_by s (λ v. v ≡ Ok tt → Head s) (λ a e. clash (sym e)) (λ a b e. clash (sym e)) (λ a b c e. clash (sym e)) (λ a b c d e. clash (sym e)) (λ h e. h)

  pub below_128 : before_blocks s ≡ Ok tt → offset_in s ≤ 127
  below_128 e = offset_below (offset_in s) (head_of e).offset
