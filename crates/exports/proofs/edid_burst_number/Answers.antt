-- `exports::edid_burst_number` meets its contract: the number, by the end alone. Assumes nothing.
use mathlib.Core.Path.{ap, ◌∙◌}
use Rattle.crate_reading.specs.Reading.{answer}
use Rattle.bursts.specs.Bursts.{held}
use Rattle.exports.specs.Numbers.{number_of, number_of_end}
use Rattle.exports.proofs.edid_burst_number.Goals as goal

pub returns : goal.returns
returns c = c.number_of.ensures ∙ ap number_of c.end.ensures ∙ number_of_end (answer (held c.args.state.now))
