-- `crate_descriptors::limits_of` meets its contract: by computation. Assumes nothing.
use mathlib.Core.Path.{refl}
use Rattle.crate_descriptors.specs.Descriptors.{limits_of}
use Rattle.crate_descriptors.proofs.limits_of.Goals as goal

pub returns : goal.returns
unfolding limits_of
returns c = refl
