-- `text_words::word_end` meets its contract. The invariant: what is left of the word ends where it does. Assumes nothing.
use Rattle.std.specs.Prelude.{◌+◌, ◌≡◌, false, drop}
use Rattle.text_words.specs.Scan.{word_length}
use Rattle.text_words.proofs.word_end.Given as goal

abbrev pub invariant-loop-k : goal.invariant-loop-k
invariant-loop-k l = l.k + word_length l.quoted (drop l.k l.l) ≡ l.at + word_length false (drop l.at l.l)
