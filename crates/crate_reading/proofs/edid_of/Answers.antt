-- `crate_reading::edid_of` meets its contract: by computation. Assumes nothing.
use mathlib.Core.Path.{refl}
use Rattle.crate_reading.specs.Parts.{edid_of}
use Rattle.crate_reading.proofs.edid_of.Goals as goal

pub returns : goal.returns
unfolding edid_of
returns c = refl
