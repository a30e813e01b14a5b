-- What the contract of `read_timings` requires: the data blocks are accepted, and the lists that it is handed are what they say.
use Rattle.std.specs.Prelude.{ℕ, ◌≡◌, List, length, Ok}
use Rattle.cta_record.specs.Seen.{holding}
use Rattle.cta_record.specs.Lists.{VideoDescriptors}
use Rattle.cta_record.specs.Lists.{DataBlocks}
use Rattle.cta_reading.specs.Along.{first}
use Rattle.cta_reading.specs.Cta.{blocks_in, judge_block, before_blocks, plain}

pub record BlocksOf (s : List ℕ) (vs : VideoDescriptors) (bs : DataBlocks) : Type 0 where
  pub whole : length s ≡ 128
  pub before : before_blocks s ≡ Ok tt
  pub fair : first (judge_block s) (blocks_in s) ≡ Ok tt
  pub video : vs ≡ (holding (plain s)).video
  pub blocks : bs ≡ (holding (plain s)).blocks
