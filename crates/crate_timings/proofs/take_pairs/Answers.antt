-- `crate_timings::take_pairs` meets its contract: what is left of the pairs at the cursor, with the list so far. Assumes nothing.
use Rattle.std.proofs.Common.{rules, ap, refl, sym, ◌∙◌, ◌≡◌}
use Rattle.steps.specs.Took.{gives, as_of}
use Rattle.crate_timings.specs.Filling.{pair_refused, pair_listed, no_more}
use Rattle.crate_timings.specs.Pairs.{with_pair}
use Rattle.crate_timings.proofs.take_pairs.Goals as goal
use Rattle.crate_timings.proofs.take_pairs.Goals.{in-Some, in_default}

pub returns-in_err-timing : goal.returns-in_err-timing
returns-in_err-timing c =
    c.loop.invariant _ _ (pair_refused _ _ _ c.loop-test.true c.in_err-timing.ensures (search rules))

pub loop-preserved : goal.loop-preserved
loop-preserved c = λ r new t.
    let into : with_pair c.loop.list c.in_ok-timing.field-0 ≡ c.match-branch-2.list =
    elim c.match-branch-2.branch [
      | in-Some w ↦ ap (with_pair c.loop.list) w.in-Some.is ∙ sym w.push.ensures ∙ sym w.list-is
      | in_default w ↦ ap (with_pair c.loop.list) w.in_default.is ∙ sym w.list-is
    ]
    in
    c.loop.invariant _ _ (pair_listed _ _ _ c.loop-test.true c.in_ok-timing.ensures into t)

pub returns : goal.returns
returns c = c.loop.invariant _ _ (as_of (no_more _ _ _ c.loop-test.false) (gives refl))
