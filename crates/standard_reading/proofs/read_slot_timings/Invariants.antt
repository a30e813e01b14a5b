-- `standard_reading::read_slot_timings` meets its contract. The invariant: no slot passed is refused, and the list holds what they list. Assumes nothing.
use Rattle.std.proofs.Common.{◌≡◌, Ok}
use Rattle.standard_record.specs.Lists.{DetailedTimings, detailed_timings}
use Rattle.standard_record.specs.Verdict.{Verdict}
use Rattle.standard_reading.specs.Slots.{judged}
use Rattle.standard_reading.specs.Block.{timings_of}
use Rattle.standard_reading.proofs.read_slot_timings.Given as goal

abbrev pub invariant-loop-k : goal.invariant-loop-k
invariant-loop-k l = ◌≡◌ {A = Verdict} (judged l.block l.k) (Ok tt) × ◌≡◌ {A = DetailedTimings} l.list (detailed_timings (timings_of l.block l.k))
