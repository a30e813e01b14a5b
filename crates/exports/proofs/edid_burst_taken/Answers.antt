-- `exports::edid_burst_taken` meets its contract: the bytes taken, by the end alone. Assumes nothing.
use mathlib.Core.Path.{ap, ◌∙◌}
use Rattle.steps.specs.Answers.{taken}
use Rattle.crate_reading.specs.Reading.{answer}
use Rattle.bursts.specs.Bursts.{held}
use Rattle.exports.specs.Numbers.{taken_of_end}
use Rattle.exports.proofs.edid_burst_taken.Goals as goal

pub returns : goal.returns
returns c = c.taken_by.ensures ∙ ap taken c.end.ensures ∙ taken_of_end (answer (held c.args.state.now))
