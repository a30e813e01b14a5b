-- `text_kinds::gather` meets its contract. The invariant: the bytes read are in the array, and what is left is behind them. Assumes nothing.
use Rattle.std.specs.Prelude.{Some, suc, ◌+◌, ◌-◌, ◌≡◌}
use Rattle.std.proofs.Common.{sym, ap, ◌∙◌, arith}
use Rattle.text_kinds.specs.Answers.{piece_of}
use Rattle.text_kinds.specs.Gathered.{ended, refused, too_many, one_more}
use Rattle.text_kinds.proofs.gather.Goals as goal

pub returns-in_err-b : goal.returns-in_err-b
returns-in_err-b c =
    c.from_residual.ensures ∙ refused _ _ _ _ _ _ c.loop-len.invariant (sym c.piece.ensures ∙ ap piece_of c.in_err-b.was)

pub returns-in-Ends : goal.returns-in-Ends
returns-in-Ends c =
    ended _ _ _ _ _ _ c.loop-len.invariant (sym c.piece.ensures ∙ ap piece_of (c.in_ok-b.was ∙ ap Some c.in-Ends.is))

pub loop-len-preserved : goal.loop-len-preserved
loop-len-preserved c =
    let n : 13 - c.loop-len.len ≡ suc (13 - (c.loop-len.len + 1)) = omega arith in
    one_more _ _ _ _ _ _ _ (sym c.piece.ensures ∙ ap piece_of (c.in_ok-b.was ∙ ap Some c.in-Byte.is)) _ (rw n at c.loop-len.invariant)

pub returns-in_err-piece : goal.returns-in_err-piece
returns-in_err-piece c =
    c.from_residual-in_err-piece.ensures ∙ refused _ _ _ _ _ _ c.loop-len.invariant (sym c.piece-2.ensures ∙ ap piece_of c.in_err-piece.was)

pub returns-in-Byte-2 : goal.returns-in-Byte-2
returns-in-Byte-2 c =
    let n : 13 - c.loop-len.len ≡ 0 = omega arith in
    too_many _ _ _ _ _ _ _ (sym c.piece-2.ensures ∙ ap piece_of (c.in_ok-piece.was ∙ ap Some c.in-Byte-2.is)) (rw n at c.loop-len.invariant)

pub returns-in-Ends-2 : goal.returns-in-Ends-2
returns-in-Ends-2 c =
    let n : c.loop-len.len ≡ 13 = omega (arith, c.loop-len.auto.len-end) in
    ended _ _ _ _ _ _ (rw n at c.loop-len.invariant) (sym c.piece-2.ensures ∙ ap piece_of (c.in_ok-piece.was ∙ ap Some c.in-Ends-2.is))
