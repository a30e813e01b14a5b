-- The fixed lists of the record, each made of a plain list, as the source's `Vec`s are: past the length stands the filler. That of the
-- established timings is in shared_record.
use Rattle.std.specs.Prelude.{List}
use Rattle.fixed.specs.Fixed.{fixed}
use Rattle.fixed.specs.declared.Fixed.{Fixed}
use Rattle.crate_record.specs.Filler.{blank_standard, blank_white, blank_descriptor, blank_detailed}
use Rattle.crate_record.specs.declared.StandardTiming.{StandardTiming}
use Rattle.crate_record.specs.declared.DetailedTiming.{DetailedTiming}
use Rattle.crate_record.specs.declared.WhitePoint.{WhitePoint}
use Rattle.crate_record.specs.declared.MonitorDescriptor.{MonitorDescriptor}

abbrev pub StandardTimings : Type 0
StandardTimings = Fixed StandardTiming 26

abbrev pub standard_timings : List StandardTiming → StandardTimings
standard_timings xs = fixed 26 blank_standard xs

abbrev pub DetailedTimings : Type 0
DetailedTimings = Fixed DetailedTiming 4

abbrev pub detailed_timings : List DetailedTiming → DetailedTimings
detailed_timings xs = fixed 4 blank_detailed xs

abbrev pub WhitePoints : Type 0
WhitePoints = Fixed WhitePoint 6

abbrev pub white_points : List WhitePoint → WhitePoints
white_points xs = fixed 6 blank_white xs

abbrev pub MonitorDescriptors : Type 0
MonitorDescriptors = Fixed MonitorDescriptor 3

abbrev pub descriptors : List MonitorDescriptor → MonitorDescriptors
descriptors xs = fixed 3 blank_descriptor xs
