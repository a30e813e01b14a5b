-- The types of the record's lists.
use Rattle.std.specs.Prelude.{ℕ}
use Rattle.fixed.specs.declared.Fixed.{Fixed}
use Rattle.standard_record.specs.declared.DetailedTiming.{DetailedTiming}
use Rattle.cta_record.specs.declared.DataBlock.{DataBlock}

abbrev pub VideoDescriptors : Type 0
VideoDescriptors = Fixed ℕ 119

abbrev pub DataBlocks : Type 0
DataBlocks = Fixed DataBlock 123

abbrev pub CtaTimings : Type 0
CtaTimings = Fixed DetailedTiming 6
