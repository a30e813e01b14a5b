-- What is written is the start of the page that the answer left.
use Rattle.std.proofs.Common.{refl, subst}
use Rattle.std.specs.Io.KnownBytes.{Appends}
use Rattle.frames.specs.Answer.{Writes}
use Rattle.frames.proofs.Known.{on_ok}
use Rattle.frames.proofs.answer_frame.Goals as goal

pub returns : goal.returns
returns g c =
    on_ok _ (Writes (goal.F-post g c.args.answer.now) c.args.frame.now _ _) c.write_all.result c.write_all.ensures.bytes
    (λ h. (_, _, _, _, refl, c.answer-end.ensures, subst (Appends _ _) c.start.ensures h))
