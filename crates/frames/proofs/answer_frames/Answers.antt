-- The frame that was read is answered, behind those before it.
use Rattle.std.proofs.Common.{rules, refl, subst}
use Rattle.frames.specs.Frame.{ReadsFrame}
use Rattle.frames.proofs.Run.{none, one_more}
use Rattle.frames.proofs.answer_frames.Goals as goal

pub loop-number-init : goal.loop-number-init
loop-number-init g c = (refl, none _ _ _)

pub loop-number-preserved : goal.loop-number-preserved
loop-number-preserved g c = (
  search rules,
  one_more (goal.F-post g c.args.answer) c.loop-number.number-counter c.in-All.n
      (g.R.Read.remaining c.args.input.now) (g.R.Read.remaining c.loop-number.input) (g.R.Read.remaining c.read_frame.new.input)
      (g.W.Write.contents c.args.output.now) (g.W.Write.contents c.loop-number.output) (g.W.Write.contents c.answer_frame.new.output)
      c.read_frame.new.space c.start.result.now
      c.loop-number.invariant.1 (subst (ReadsFrame _ _ _) c.in-All.is c.in_ok-n.ensures) c.start.ensures c.in_ok-answer_frame-in-All.ensures,
)
