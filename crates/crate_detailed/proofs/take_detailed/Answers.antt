-- `crate_detailed::take_detailed` meets its contract: one read after the other. Assumes nothing.
use Rattle.std.proofs.Common.{rules, ◌≡◌, true, false, refl}
use Rattle.steps.specs.Took.{then, stop, gives, as_of}
use Rattle.std.specs.Prelude.{◌||◌, eqb}
use Rattle.steps.specs.Laws.{picked, picked_not}
use Rattle.crate_detailed.specs.Detailed.{detailed}
use Rattle.crate_detailed.proofs.take_detailed.Goals as goal

pub returns-in_err-clock : goal.returns-in_err-clock
unfolding detailed
returns-in_err-clock c = stop _ c.in_err-clock.ensures (search rules)

pub returns-in_err-ha : goal.returns-in_err-ha
unfolding detailed
returns-in_err-ha c =
    then _ c.in_ok-clock.ensures
    (stop _ c.in_err-ha.ensures (search rules))

pub returns-then-clock-eq0 : goal.returns-then-clock-eq0
unfolding detailed
returns-then-clock-eq0 c =
    let none : (eqb c.in_ok-clock.clock 0 || eqb c.in_ok-ha.ha 0) ≡ true = search rules in
    then _ c.in_ok-clock.ensures
    (then _ c.in_ok-ha.ensures
    (as_of (picked _ _ _ none) (gives refl)))

pub returns : goal.returns
unfolding detailed
returns c =
    let none : (eqb c.in_ok-clock.clock 0 || eqb c.in_ok-ha.ha 0) ≡ false = search rules in
    then _ c.in_ok-clock.ensures
    (then _ c.in_ok-ha.ensures
    (as_of (picked_not _ _ _ none) c.take_timing.ensures))
