-- `crate_record::coordinate_of` meets its contract: by what its callees ensure. Assumes nothing.
use Prim.Native.Nat.{◌%◌}
use Rattle.bits.specs.Laws.{digits_under}
use Rattle.crate_record.proofs.coordinate_of.Goals as goal

pub returns : goal.returns
returns c = let a = c.args in cc (digits_under a.low (a.shift % 8) 2)
