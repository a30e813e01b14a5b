-- `text_kinds::number` meets its contract: by the number in the word, where there is one. Assumes nothing.
use Rattle.std.specs.Prelude.{ℕ, min, ◌≤◌, ◌≡◌, Bool, true, false, ◌&&◌, cond, Option, Some, None, List, leb}
use Rattle.std.specs.Option.{unwrap_or}
use Rattle.std.proofs.Common.{refl, ap, ◌∙◌, arith, leb-true}
use Rattle.text_kinds.specs.Kinds.{is_led, all_digits, value, is_number, number_of}
use Rattle.text_kinds.specs.Answers.{number_in}
use Rattle.text_kinds.proofs.number.Goals as goal

number_small : (most : ℕ) (w : List ℕ) → number_of most w ≤ most
unfolding number_of is_number
number_small most w = go (is_led w) (all_digits w) (leb (value 0 w) most) refl
  where
    go : (s t u : Bool) → leb (value 0 w) most ≡ u → cond (s && (t && u)) (value 0 w) 0 ≤ most
    go true true true e = leb-true (value 0 w) most e
    go true true false e = omega arith
    go true false u e = omega arith
    go false t u e = omega arith

-- 0 where there is none
number_read : (most : ℕ) (w : List ℕ) {n : ℕ} (o : Option ℕ) → o ≡ number_in most w → n ≡ unwrap_or o 0 → n ≡ number_of most w
unfolding number_of
number_read most w o e f = f ∙ ap (λ (p : Option ℕ). unwrap_or p 0) e ∙ go (is_number most w)
  where
    go : (t : Bool) → unwrap_or (cond t (Some (value 0 w)) None) 0 ≡ cond t (value 0 w) 0
    go true = refl
    go false = refl

min_of : (n m : ℕ) → n ≤ m → min n m ≡ n
min_of n m h = omega (arith, h)

pub returns : goal.returns
returns g c =
    let is = number_read _ _ c.number_in.result c.number_in.ensures c.unwrap_or.ensures in
    let small : c.unwrap_or.result ≤ g.N.Unsigned.most = rw (is, c.most.ensures) (number_small g.N.Unsigned.most c.word.result.now) in
    c.of.ensures ∙ min_of _ _ small ∙ rw (c.most.ensures, c.word.ensures) at is
