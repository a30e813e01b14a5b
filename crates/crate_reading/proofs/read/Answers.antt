-- `crate_reading::read` meets its contract: the record, or the filler beside the refusal. Assumes nothing.
use Rattle.crate_reading.proofs.read.Goals as goal

pub returns-in-Ok : goal.returns-in-Ok
returns-in-Ok c = record { answer = c.in-Ok.ensures.answer; filled = tt }

pub returns-in-Err : goal.returns-in-Err
returns-in-Err c = record { answer = c.in-Err.ensures.answer; filled = c.blank_edid.ensures }
