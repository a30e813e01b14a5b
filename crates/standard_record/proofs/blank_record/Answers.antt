-- `standard_record::blank_record` meets its contract: by computation. Assumes nothing.
use mathlib.Core.Path.{refl}
use Rattle.standard_record.specs.Filler.{blank}
use Rattle.standard_record.proofs.blank_record.Goals as goal

pub returns : goal.returns
unfolding blank
returns c = refl
