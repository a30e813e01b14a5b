-- `panel_lists::bytes` meets its contract. The invariant: the bytes of the lines passed are in the array. Assumes nothing.
use Rattle.std.specs.Prelude.{◌*◌}
use Rattle.panel_lists.specs.Lists.{between}
use Rattle.panel_lists.specs.Laws.{Filled, all_bytes}
use Rattle.panel_lists.proofs.bytes.Given as goal

abbrev pub invariant-loop-i : goal.invariant-loop-i
invariant-loop-i l = Filled 39 0 (all_bytes (between l.s l.from l.to)) l.bytes (13 * l.i)
