-- Law: what is made of a timing is bytes.
use Rattle.std.proofs.Common.{arith}
use Rattle.standard_record.specs.declared.DetailedTiming.{DetailedTiming}
use Rattle.write_leaf.specs.Bytes.{Bytes}
use Rattle.write_leaf.specs.Again.{each_byte}
use Rattle.write_timing.specs.Timing.{timing_bytes}
use Rattle.write_timing.specs.Last.{last_parts}

pub timing_are_bytes : (d : DetailedTiming) → Bytes (timing_bytes d)
unfolding timing_bytes
timing_are_bytes d = let last = last_parts d.interlaced d.stereo d.sync in each_byte (timing_bytes d) (omega arith)
