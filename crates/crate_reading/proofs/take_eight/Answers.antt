-- `crate_reading::take_eight` meets its contract: pairs onto an empty list. Assumes nothing.
use Rattle.std.proofs.Common.{ap, sym, ◌∙◌}
use Rattle.steps.specs.Took.{as_of}
use Rattle.crate_timings.specs.Pairs.{fill_pairs}
use Rattle.crate_timings.specs.Filling.{pairs_filled}
use Rattle.crate_reading.proofs.take_eight.Goals as goal

pub returns : goal.returns
returns c = as_of (pairs_filled 8 ∙ ap (fill_pairs 8) (sym c.no_standard.ensures)) c.take_pairs.ensures
