-- As many frames as were counted are answered.
use Rattle.std.proofs.Common.{◌≡◌, length}
use Rattle.frames.specs.Run.{AnswersEach}
use Rattle.frames.proofs.answer_frames.Given as goal

abbrev pub invariant-loop-number : goal.invariant-loop-number
invariant-loop-number g l =
    (length l.space ≡ 4096)
    × AnswersEach (goal.F-post g l.fn.answer) l.number-counter (g.R.Read.remaining l.initial.input) (g.R.Read.remaining l.input) (g.W.Write.contents l.initial.output) (g.W.Write.contents l.output)
