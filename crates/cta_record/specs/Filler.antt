-- The fillers: what stands past a list's length, and the record beside a refusal.
use Rattle.std.specs.Prelude.{replicate}
use Rattle.standard_record.specs.Filler.{blank_timing}
use Rattle.cta_record.specs.declared.DataBlock.{DataBlock}
use Rattle.cta_record.specs.declared.Cta.{Cta}

abbrev pub blank_block : DataBlock
blank_block = record { tag = 0; run = record { start = 0; len = 0 } }

unfoldable pub blank : Cta
blank = record {
  revision = 0;
  offset = 0;
  support = 0;
  video = record { items = replicate 119 0; len = 0 };
  blocks = record { items = replicate 123 blank_block; len = 0 };
  timings = record { items = replicate 6 blank_timing; len = 0 };
}
