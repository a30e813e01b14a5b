-- `bursts::take` meets its contract, by whether the end was known. Assumes nothing.
use Rattle.std.proofs.Common.{rules, ℕ, ◌-◌, ◌≤◌, List, length, get_or, sym, subst, ap, ◌∙◌}
use Rattle.crate_end.specs.Ends.{went}
use Rattle.crate_end.specs.Answers.{of_came}
use Rattle.bursts.specs.Bursts.{standing}
use Rattle.bursts.specs.Laws.{held_most, still, anew}
use Rattle.bursts.proofs.take.Goals as goal

pub returns-then-state-ge6 : goal.returns-then-state-ge6
returns-then-state-ge6 c =
    let a = c.args in
    (still (standing a.state.now) a.burst.now c.hold.new.state c.hold.ensures.0 c.hold.ensures.1 (search rules), c.reported.ensures)

pub go_on-came-requires : goal.go_on-came-requires
go_on-came-requires c =
    (search rules, subst (λ (l : List ℕ). length l ≤ 142) (sym c.held.ensures) (held_most c.hold.new.state))

pub returns : goal.returns
returns c =
    let a = c.args in
    let s = c.hold.new.state in (
      anew (standing a.state.now) a.burst.now s c.hold.ensures.0 c.hold.ensures.1 c.note.new.state (of_came c.go_on-came.result)
          (search rules) c.note.ensures.0 c.note.ensures.1
          (c.go_on-came.ensures.0 ∙ ap (λ (l : List ℕ). went (5 - get_or s 143 0) (get_or s 143 0) l (get_or s 144 0)) c.held.ensures),
      c.reported-2.ensures,
    )
