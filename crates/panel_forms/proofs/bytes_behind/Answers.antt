-- `panel_forms::bytes_behind` meets its contract. The invariant: the words passed are numbers. Assumes nothing.
use Rattle.std.specs.Prelude.{suc, ◌+◌, true, false, length}
use Rattle.std.proofs.Common.{refl, sym, ◌∙◌, arith, leb-true}
use Rattle.text_words.specs.Words.{words}
use Rattle.text_words.specs.Scan.{words_some}
use Rattle.panel_forms.specs.Laws.{bytes_over, behind_is, behind_long}
use Rattle.panel_forms.proofs.bytes_behind.Goals as goal

pub loop-k-init : goal.loop-k-init
loop-k-init c = (words_some false c.args.l.now, refl)

pub returns-then-last_word : goal.returns-then-last_word
returns-then-last_word c =
    let w = words c.args.l.now in
    let last = leb-true (length w) (suc c.loop-k.k) (sym c.last_word.ensures ∙ c.if-last_word.true) in
    sym (behind_is w true (omega (arith, c.loop-k.invariant.0)) (omega (arith, last)) (c.loop-k.invariant.1 ∙ bytes_over w (c.loop-k.k + 1) (omega (arith, last))))

pub returns : goal.returns
returns c =
    sym (behind_long (words c.args.l.now) (omega (arith, c.loop-k.invariant.0)))
