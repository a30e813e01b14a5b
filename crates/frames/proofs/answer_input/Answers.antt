-- What is answered is the first 4,096 bytes, and what is written is the start of the page that the answer left.
use Rattle.std.proofs.Common.{rules, arith, ◌≡◌, length, take, ◌∙◌, subst, length-take-le}
use Rattle.std.specs.Io.KnownBytes.{Appends}
use Rattle.frames.specs.Answer.{Writes}
use Rattle.frames.proofs.Known.{on_ok_if_known, first_bytes}
use Rattle.frames.proofs.answer_input.Goals as goal

pub returns : goal.returns
returns g c =
    let n = c.in_ok-n.n in
    let size : length (take n c.fill.new.space) ≡ n = length-take-le n c.fill.new.space (search rules) in
    let known = first_bytes 4096 _ _ (take n c.fill.new.space) (omega (arith, size, c.fill.auto.space, c.in_ok-n.ensures.within.0)) c.in_ok-n.ensures.bytes (λ h. c.in_ok-n.ensures.end (omega (arith, size, h))) in
    on_ok_if_known _ _ (λ xs. Writes (goal.F-post g c.args.answer) (take 4096 xs) _ _) c.write_all.result _ c.write_all.ensures.bytes known
    (λ xs k h. (_, _, _, _, c.start.ensures ∙ k, c.answer-end.ensures, subst (Appends _ _) c.start-2.ensures h))
