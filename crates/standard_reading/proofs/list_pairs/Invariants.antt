-- `standard_reading::list_pairs` meets its contract: the list holds the pairs passed, no more than there were and those. Assumes nothing.
use Rattle.std.proofs.Common.{◌≡◌, ◌+◌, ◌≤◌}
use Rattle.standard_record.specs.Lists.{StandardTimings}
use Rattle.standard_slots.specs.Said.{pairs_at}
use Rattle.standard_reading.specs.Filling.{with_pairs}
use Rattle.standard_reading.proofs.list_pairs.Given as goal

abbrev pub invariant-loop-k : goal.invariant-loop-k
invariant-loop-k l = record {
  no_more : l.list.len ≤ l.initial.list.len + l.k;
  listed : ◌≡◌ {A = StandardTimings} l.list (with_pairs l.initial.list l.slot (pairs_at l.structure l.t l.from l.k));
}
