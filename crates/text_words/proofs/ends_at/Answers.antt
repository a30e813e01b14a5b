-- `text_words::ends_at` meets its contract: by where the walk stands. Assumes nothing.
use Rattle.std.specs.Prelude.{◌+◌, ◌<◌, ◌≡◌, eqb, length}
use Rattle.std.proofs.Common.{sym, ap, ◌∙◌, arith, ne_eqb}
use Rattle.text_words.specs.Words.{words}
use Rattle.text_words.specs.Walk.{ends_here, ends_before}
use Rattle.text_words.proofs.ends_at.Goals as goal

pub returns-then-at-k : goal.returns-then-at-k
returns-then-at-k c =
    let here : c.walk-at.result.index ≡ c.args.k = omega (arith, c.if-at-k.true) in
    ends_here _ _ _ _ c.walk-at.ensures.at ∙ ap (λ i. eqb (length (words c.args.l.now)) (i + 1)) here

pub returns-else-at-k : goal.returns-else-at-k
returns-else-at-k c =
    let before : c.walk-at.result.index < c.args.k = omega (arith, c.walk-at.ensures.most, c.if-at-k.false) in
    ne_eqb c.walk-at.result.index c.args.k c.if-at-k.false ∙ sym (ends_before _ _ _ _ c.walk-at.ensures.at _ before (c.walk-at.ensures.reached before))
