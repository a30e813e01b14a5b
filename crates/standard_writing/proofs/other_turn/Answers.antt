-- `standard_writing::other_turn` meets its contract: points, else a descriptor, else nothing. Assumes nothing.
use Rattle.std.proofs.Common.{◌≡◌, [], refl, arith}
use Rattle.standard_slots.specs.Answers.{of_points}
use Rattle.write_next.specs.Next.{of_descriptor}
use Rattle.write_block.specs.Taken.{first}
use Rattle.write_block.specs.Leaves.{slot_points, slot_descriptor}
use Rattle.standard_writing.proofs.Laws.{none_left, turned, some_points, no_entry}
use Rattle.standard_writing.proofs.other_turn.Goals as goal

pub returns-then-two-gt0 : goal.returns-then-two-gt0
returns-then-two-gt0 c =
    let many = c.many-two.ensures in
    rw c.turn_of.ensures
    (turned _ _ _ _ _ _ (some_points c.args.ps (omega arith) (of_descriptor c.args.d)) (slot_points _ _ _ _ _ (c.points_bytes.ensures _))
    (record { timed = omega arith; listed = omega arith; pointed = omega arith; entered = omega arith }))

pub returns-in-Some : goal.returns-in-Some
returns-in-Some c =
    let none : of_points c.args.ps ≡ [] = none_left (of_points c.args.ps) (omega (arith, c.many-two.ensures)) in
    rw c.turn_of-in-Some.ensures
    (turned _ _ _ _ _ _ (λ i. first [] [] (none i) (of_descriptor (c.in-Some.is i))) (slot_descriptor _ _ _ _ _ c.descriptor_bytes.ensures)
    (record { timed = omega arith; listed = omega arith; pointed = omega arith; entered = omega arith }))

pub returns-in-None : goal.returns-in-None
returns-in-None c =
    let none : of_points c.args.ps ≡ [] = none_left (of_points c.args.ps) (omega (arith, c.many-two.ensures)) in
    rw c.turn_of-in-None.ensures
    (turned _ _ _ _ _ _ (λ i. first [] [] (none i) (of_descriptor (c.in-None.is i))) (no_entry _ _ _ _ _ refl (c.points_bytes-in-None.ensures _))
    (record { timed = omega arith; listed = omega arith; pointed = omega arith; entered = omega arith }))
