-- What a reading tells of the timings alone.
use Rattle.std.specs.Prelude.{Result}
use Rattle.steps.specs.declared.Refusal.{Refusal}
use Rattle.steps.specs.Took.{with_value}
use Rattle.standard_record.specs.Lists.{DetailedTimings}
use Rattle.standard_record.specs.declared.StandardReading.{StandardReading}

-- the detailed timings of an accepted block, or its refusal
abbrev pub timings_told : StandardReading → Result DetailedTimings Refusal
timings_told r = with_value r.edid.timings.detailed r.end
