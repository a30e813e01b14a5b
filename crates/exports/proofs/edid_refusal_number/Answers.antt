-- `exports::edid_refusal_number` meets its contract: the number, by the end alone. Assumes nothing.
use mathlib.Core.Path.{ap, ◌∙◌}
use Rattle.crate_reading.specs.Reading.{answer}
use Rattle.exports.specs.Numbers.{number_of, number_of_end}
use Rattle.exports.proofs.edid_refusal_number.Goals as goal

pub returns : goal.returns
returns c = c.number_of.ensures ∙ ap number_of c.end_of.ensures ∙ number_of_end (answer c.args.block.now)
