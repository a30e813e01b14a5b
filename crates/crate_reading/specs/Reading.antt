-- The whole of the crate reading, as `EDID::parse` of the source has it: part after part, then one extension count.
use Rattle.std.specs.Prelude.{ℕ, List, ◌++◌}
use Rattle.steps.specs.Steps.{Steps, done, ◌>>=◌, map, Outcome, run}
use Rattle.steps.specs.Leaves.{byte}
use Rattle.crate_record.specs.Seen.{Seen, holding}
use Rattle.crate_record.specs.declared.EDID.{EDID}
use Rattle.crate_record.specs.declared.StandardTiming.{StandardTiming}
use Rattle.crate_head.specs.Head.{front}
use Rattle.crate_head.specs.declared.Front.{Front}
use Rattle.crate_timings.specs.Established.{established}
use Rattle.crate_timings.specs.Pairs.{pairs}
use Rattle.crate_slots.specs.Slots.{Said, slots, together}

-- what is read, with the lists as the source's `Vec`s are
pub record Parts : Type 0 where
  pub front : Front
  pub established : List ℕ
  pub eight : List StandardTiming
  pub slots : List Said
  pub extensions : ℕ

unfoldable pub parts : Steps Parts
parts = do
  f ← front
  e ← established
  a ← pairs 8
  xs ← slots
  n ← byte
  done (record { front = f; established = e; eight = a; slots = xs; extensions = n })

-- what the block says, in plain lists
unfoldable pub plain : Parts → Seen
plain p = record {
  product = p.front.product;
  version = p.front.version;
  display = p.front.display;
  basic = p.front.basic;
  points = (together p.slots).points;
  established = p.established;
  standard = p.eight ++ (together p.slots).standards;
  detailed = (together p.slots).timings;
  descriptors = (together p.slots).descriptors;
  extensions = p.extensions;
}

-- the record holds each list in an array
unfoldable pub reading : Steps EDID
reading = map (λ p. holding (plain p)) parts

-- what the reading answers on the bytes s
abbrev pub answer : List ℕ → Outcome EDID
answer s = run reading s 0
