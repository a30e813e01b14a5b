-- `text_words::last_word` meets its contract: by where the walk stands. Assumes nothing.
use native.Mathlib.Omega.{arith}
use Rattle.std.specs.Prelude.{◌<◌, ◌≡◌, true, nat_lt}
use mathlib.Core.Path.{sym, ap, ◌∙◌}
use Rattle.text_words.specs.Words.{last_word}
use Rattle.text_words.specs.Walk.{last_behind, last_is}
use Rattle.text_words.proofs.last_word.Goals as goal

pub returns-then-at-k : goal.returns-then-at-k
returns-then-at-k c =
    let h : c.walk-at.result.index < c.args.k = c.if-at-k.true in
    let t : nat_lt c.walk-at.result.index c.args.k ≡ true = grind arith in
    t ∙ sym (last_behind _ _ _ _ c.walk-at.ensures.at _ c.walk-at.ensures.most (c.walk-at.ensures.reached h))

pub returns-else-at-k : goal.returns-else-at-k
returns-else-at-k c =
    last_is _ _ _ _ c.walk-at.ensures.at ∙ ap (last_word c.args.l.now) (omega (arith, c.walk-at.ensures.most, c.if-at-k.false))
