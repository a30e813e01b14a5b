-- `standard_reading::list_pairs` meets its contract: the list holds the pairs passed, no more than there were and those. Assumes nothing.
use Rattle.std.proofs.Common.{ap, arith, ◌+◌, ◌≤◌}
use Rattle.std.proofs.lemmas.Grind.{common_steps}
use Rattle.standard_record.specs.Lists.{StandardTimings}
use Rattle.standard_reading.proofs.Laws.{one_longer}
use Rattle.standard_reading.proofs.list_pairs.Goals as goal
use Rattle.standard_reading.proofs.list_pairs.Goals.{in-Some, in_default}

pub loop-k-preserved : goal.loop-k-preserved
loop-k-preserved c =
    let least = c.loop-k.invariant.no_more in
    let few : c.match-pair_of.list.len ≤ c.args.list.now.len + (c.loop-k.k + 1) =
    elim c.match-pair_of.branch [
      | in-Some w ↦
          let is = ap (λ (l : StandardTimings). l.len) w.list-is in
          let longer = one_longer 26 c.loop-k.list _ w.put.ensures (omega (arith, least)) in
          omega (arith, least, is, longer)
      | in_default w ↦
          let is = ap (λ (l : StandardTimings). l.len) w.list-is in
          omega (arith, least, is)
    ]
    in record { no_more = few; listed = grind (arith, common_steps) }
