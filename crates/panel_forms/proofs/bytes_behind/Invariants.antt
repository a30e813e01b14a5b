-- `panel_forms::bytes_behind` meets its contract. The invariant: the words passed are numbers. Assumes nothing.
use Rattle.std.specs.Prelude.{◌+◌, ◌<◌, ◌≡◌, length, drop}
use Rattle.text_words.specs.Words.{words}
use Rattle.panel_forms.specs.Forms.{all_bytes}
use Rattle.panel_forms.proofs.bytes_behind.Given as goal

abbrev pub invariant-loop-k : goal.invariant-loop-k
invariant-loop-k l = (l.k < length (words l.l)) × (all_bytes (drop 1 (words l.l)) ≡ all_bytes (drop (l.k + 1) (words l.l)))
