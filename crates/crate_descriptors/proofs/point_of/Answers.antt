-- `crate_descriptors::point_of` meets its contract: field by field. Assumes nothing.
use Rattle.crate_descriptors.specs.Descriptors.{point_of}
use Rattle.crate_descriptors.proofs.point_of.Goals as goal

pub returns : goal.returns
unfolding point_of
returns c = λ i. record { index = c.args.index; x = c.coordinate_of.ensures i; y = c.coordinate_of-2.ensures i; gamma = c.gamma_of.ensures i }
