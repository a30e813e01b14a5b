-- `text_words::word_end` meets its contract. The invariant: what is left of the word ends where it does. Assumes nothing.
use Rattle.std.proofs.Common.{sym, ◌∙◌, arith, rules}
use Rattle.text_words.specs.Scan.{word_stops, word_goes_on, word_over}
use Rattle.text_words.proofs.word_end.Goals as goal

pub returns-then-parts : goal.returns-then-parts
returns-then-parts c =
    omega (arith, c.loop-k.invariant, word_stops c.args.l.now c.loop-k.k (search rules) c.loop-k.quoted (sym c.parts.ensures ∙ c.if-parts.true))

pub loop-k-preserved : goal.loop-k-preserved
loop-k-preserved c =
    rw c.turned-quoted.ensures
    (omega (arith, c.loop-k.invariant, word_goes_on c.args.l.now c.loop-k.k (search rules) c.loop-k.quoted (sym c.parts.ensures ∙ c.if-parts.false)))

pub returns : goal.returns
returns c = omega (arith, c.loop-k.invariant, c.loop-k.auto.k, word_over c.args.l.now c.loop-k.k (search rules) c.loop-k.quoted)
