-- `text_words::walk` meets its contract. The invariant: the word at hand is the one at index. Assumes nothing.
use Rattle.text_words.specs.Walk.{At}
use Rattle.text_words.proofs.walk.Given as goal

abbrev pub invariant-loop-index : goal.invariant-loop-index
invariant-loop-index l = At l.l l.start l.end l.index
