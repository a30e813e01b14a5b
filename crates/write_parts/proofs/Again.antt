-- What follows from the law of a pair's bytes: a pair that any bytes are read as, is read from its own bytes.
use Rattle.standard_record.specs.declared.StandardTiming.{StandardTiming}
use Rattle.standard_parts.specs.declared.Structure.{Structure}
use Rattle.write_leaf.specs.Leaf.{Again, Two, BothBytes}
use Rattle.write_leaf.specs.Again.{again}
use Rattle.write_parts.specs.Pair.{pair_bytes, ReadsPair}
use Rattle.write_parts.specs.Pairs.{writes_pair}
use Rattle.write_parts.specs.Again.{pair_are_bytes}

pub pair_again : (σ : Structure) (v : StandardTiming) (s : Two) → BothBytes s → ReadsPair σ s v → Again BothBytes (ReadsPair σ) pair_bytes v
pair_again σ v s b r = again (writes_pair σ v) s b r (pair_are_bytes v)
