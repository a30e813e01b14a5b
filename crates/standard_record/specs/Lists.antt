-- The fixed lists of the record, but for the established timings, each made of a plain list.
use Rattle.std.specs.Prelude.{List}
use Rattle.fixed.specs.Fixed.{fixed}
use Rattle.fixed.specs.declared.Fixed.{Fixed}
use Rattle.standard_record.specs.Filler.{blank_white, blank_standard, blank_detailed, blank_held}
use Rattle.standard_record.specs.declared.HeldPoint.{HeldPoint}
use Rattle.standard_record.specs.declared.HeldPair.{HeldPair}
use Rattle.standard_record.specs.declared.HeldTiming.{HeldTiming}
use Rattle.standard_record.specs.declared.Held.{Held}

abbrev pub WhitePoints : Type 0
WhitePoints = Fixed HeldPoint 6

abbrev pub white_points : List HeldPoint → WhitePoints
white_points xs = fixed 6 blank_white xs

abbrev pub StandardTimings : Type 0
StandardTimings = Fixed HeldPair 26

abbrev pub standard_timings : List HeldPair → StandardTimings
standard_timings xs = fixed 26 blank_standard xs

abbrev pub DetailedTimings : Type 0
DetailedTimings = Fixed HeldTiming 4

abbrev pub detailed_timings : List HeldTiming → DetailedTimings
detailed_timings xs = fixed 4 blank_detailed xs

abbrev pub Descriptors : Type 0
Descriptors = Fixed Held 3

abbrev pub descriptors : List Held → Descriptors
descriptors xs = fixed 3 blank_held xs
