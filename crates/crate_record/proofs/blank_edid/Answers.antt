-- `crate_record::blank_edid` meets its contract: by computation. Assumes nothing.
use mathlib.Core.Path.{refl}
use Rattle.crate_record.specs.Filler.{blank}
use Rattle.crate_record.proofs.blank_edid.Goals as goal

pub returns : goal.returns
unfolding blank
returns c = refl
