-- What a record shows, with each list up to its length; and the record that holds what is to be shown.
use Rattle.std.specs.Prelude.{ℕ, ◌≤◌, ◌≡◌, List, length, take}
use Rattle.fixed.specs.Fixed.{pad, count, shown_whole}
use Rattle.standard_record.specs.Filler.{blank_timing}
use Rattle.standard_record.specs.declared.DetailedTiming.{DetailedTiming}
use Rattle.cta_record.specs.Filler.{blank_block}
use Rattle.cta_record.specs.declared.DataBlock.{DataBlock}
use Rattle.cta_record.specs.declared.Cta.{Cta}

pub record Seen : Type 0 where
  pub revision : ℕ
  pub offset : ℕ
  pub support : ℕ
  pub video : List ℕ
  pub blocks : List DataBlock
  pub timings : List DetailedTiming

unfoldable pub seen : Cta → Seen
seen c = record {
  revision = c.revision;
  offset = c.offset;
  support = c.support;
  video = take c.video.len c.video.items;
  blocks = take c.blocks.len c.blocks.items;
  timings = take c.timings.len c.timings.items;
}

-- ---- the record that holds it: each list in its array, then the filler

abbrev pub holding : Seen → Cta
holding x = record {
  revision = x.revision;
  offset = x.offset;
  support = x.support;
  video = record { items = pad 119 0 x.video; len = count 119 x.video };
  blocks = record { items = pad 123 blank_block x.blocks; len = count 123 x.blocks };
  timings = record { items = pad 6 blank_timing x.timings; len = count 6 x.timings };
}

-- each list has room in its array
pub record Fits (x : Seen) : Type 0 where
  pub video : length x.video ≤ 119
  pub blocks : length x.blocks ≤ 123
  pub timings : length x.timings ≤ 6

-- then the record shows all of it
pub shows : (x : Seen) → Fits x → seen (holding x) ≡ x
unfolding seen
shows x f =
    λ i. record {
      revision = x.revision;
      offset = x.offset;
      support = x.support;
      video = shown_whole 119 0 x.video f.video i;
      blocks = shown_whole 123 blank_block x.blocks f.blocks i;
      timings = shown_whole 6 blank_timing x.timings f.timings i;
    }
