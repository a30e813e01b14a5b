-- `standard_reading::read_slots` meets its contract. The invariant: no slot passed is refused, and the lists hold what they list. Assumes nothing.
use Rattle.std.proofs.Common.{◌≡◌, Ok}
use Rattle.standard_record.specs.Verdict.{Verdict}
use Rattle.standard_reading.specs.declared.Lists.{Lists}
use Rattle.standard_reading.specs.Slots.{judged}
use Rattle.standard_reading.specs.Filling.{lists_of}
use Rattle.standard_reading.proofs.read_slots.Given as goal

abbrev pub invariant-loop-i : goal.invariant-loop-i
invariant-loop-i l = ◌≡◌ {A = Verdict} (judged l.s l.i) (Ok tt) × ◌≡◌ {A = Lists} l.lists (lists_of l.s l.i)
