-- What follows from the law of a timing's bytes: a timing that any bytes are read as, is read from its own bytes.
use Rattle.std.specs.Prelude.{ℕ, List}
use Rattle.standard_record.specs.declared.DetailedTiming.{DetailedTiming}
use Rattle.write_leaf.specs.Bytes.{Bytes}
use Rattle.write_leaf.specs.Leaf.{Again}
use Rattle.write_leaf.specs.Again.{again}
use Rattle.write_timing.specs.Timing.{timing_bytes, Reads}
use Rattle.write_timing.specs.Whole.{writes_timing}
use Rattle.write_timing.specs.Again.{timing_are_bytes}

pub timing_again : (d : DetailedTiming) (t : List ℕ) → Bytes t → Reads t d → Again Bytes Reads timing_bytes d
timing_again d t b r = again (writes_timing d) t b r (timing_are_bytes d)
