-- `text_words::walk` meets its contract. The invariant: the word at hand is the one at index. Assumes nothing.
use Rattle.std.specs.Prelude.{◌+◌, ◌<◌, ◌≡◌, length}
use Rattle.std.proofs.Common.{refl, arith}
use Rattle.text_words.specs.Walk.{begun, gap_inside, next}
use Rattle.text_words.proofs.walk.Goals as goal

pub loop-index-init : goal.loop-index-init
loop-index-init c = rw c.word_end-end.ensures (begun c.args.l.now 0 0 (omega arith) refl)

pub gap_end-start-requires : goal.gap_end-start-requires
gap_end-start-requires c = c.loop-index.invariant.inside

pub word_end-end-requires-in-loop-index : goal.word_end-end-requires-in-loop-index
word_end-end-requires-in-loop-index c =
    let h : c.loop-index.end < length c.args.l.now = omega (arith, c.loop-index.invariant.inside, c.if-end-l.false) in
    rw c.gap_end-start.ensures (gap_inside c.args.l.now _ _ _ c.loop-index.invariant h)

pub loop-index-preserved : goal.loop-index-preserved
loop-index-preserved c =
    let s = c.args.l.now in
    let h : c.loop-index.end < length s = omega (arith, c.loop-index.invariant.inside, c.if-end-l.false) in
    let e = next s _ _ _ c.loop-index.invariant h in
    rw c.word_end-end-in-loop-index.ensures (begun s c.gap_end-start.result (c.loop-index.index + 1) (rw c.gap_end-start.ensures (gap_inside s _ _ _ c.loop-index.invariant h)) (rw (← c.gap_end-start.ensures) at e))

pub returns-then-end-l : goal.returns-then-end-l
returns-then-end-l c = record { at = c.loop-index.invariant; most = omega arith; reached = λ h. c.if-end-l.true }

pub returns : goal.returns
returns c =
    let e : c.loop-index.index ≡ c.args.k = omega (arith, c.loop-index.auto.index-end) in
    record { at = rw e at c.loop-index.invariant; most = omega arith; reached = λ h. absurd (omega arith) }
