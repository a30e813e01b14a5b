-- `standard_reading::read_timings` meets its contract: each arm by what is judged before the slots. Assumes nothing.
use mathlib.Core.Path.{sym, ◌∙◌}
use Rattle.standard_verdict.specs.Laws.{has_128}
use Rattle.standard_reading.specs.Slots.{judged}
use Rattle.standard_reading.specs.Block.{standard_of}
use Rattle.standard_reading.proofs.Laws.{stays}
use Rattle.standard_reading.proofs.read_timings.Goals as goal

pub read_slot_timings-requires : goal.read_slot_timings-requires
read_slot_timings-requires c = let e = sym c.before_slots.ensures ∙ c.in-Ok.is in (has_128 _ e, e)

pub returns-in-Err : goal.returns-in-Err
unfolding standard_of judged
returns-in-Err c = rw (stays _ _ 0 (sym c.before_slots.ensures ∙ c.in-Err.is) 4)
