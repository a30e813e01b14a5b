-- `text_words::word` meets its contract: by where the walk stands. Assumes nothing.
use Prim.Native.Nat.{◌<◌}
use native.Mathlib.Omega.{arith}
use mathlib.Core.Path.{sym}
use Rattle.text_words.specs.Walk.{none_behind}
use Rattle.text_words.proofs.word.Goals as goal

pub returns-else-index-k : goal.returns-else-index-k
returns-else-index-k c =
    let before : c.walk-start.result.index < c.args.k = omega (arith, c.walk-start.ensures.most, c.if-index-k.false) in
    sym (none_behind _ _ _ _ c.walk-start.ensures.at _ before (c.walk-start.ensures.reached before))
