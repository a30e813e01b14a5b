-- `pick_lines::answer_lines` meets its contract, by what is asked. Assumes nothing.
use Rattle.std.proofs.Common.{◌≡◌, ◌-◌, arith, length, take, drop, length-drop}
use Rattle.std.proofs.lemmas.List.{take_all}
use Rattle.pick_lines.specs.Lines.{answer_to}
use Rattle.pick_lines.proofs.answer_lines.Goals as goal

pub returns-in-None : goal.returns-in-None
unfolding answer_to
returns-in-None c = rw (← c.limits_in.ensures.0, c.in-None.is) c.bytes.ensures

pub returns-in-Some : goal.returns-in-Some
unfolding answer_to
returns-in-Some c =
    let s = c.args.s.now in
    let at = c.in-Some.asked.block in
    let rest : take (length s - at) (drop at s) ≡ drop at s = take_all (length s - at) (drop at s) (omega (arith, length-drop at s)) in
    rw (← c.limits_in.ensures.0, c.in-Some.is, ← rest)
    (rw c.read_standard.ensures at c.reading_lines.ensures)
