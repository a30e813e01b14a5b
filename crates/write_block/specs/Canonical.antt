-- The canonical block of what a record shows. Of a record that no block gives it is no matter what stands here.
use Rattle.std.specs.Prelude.{ℕ, ◌+◌, List, [], ◌∷◌, ◌++◌}
use Rattle.fixed.specs.Gather.{gather}
use Rattle.fixed.specs.Numbered.{numbered}
use Rattle.sums.specs.Joined.{checksum}
use Rattle.standard_record.specs.Held.{held_point, held_pair, held_timing}
use Rattle.standard_record.specs.declared.StandardTiming.{StandardTiming}
use Rattle.write_pairs.specs.Pairs.{pairs_bytes}
use Rattle.write_slots.specs.Slot.{slot_bytes}
use Rattle.write_head.specs.Front.{front_bytes}
use Rattle.write_block.specs.Shown.{Shown, worded}

-- the slot numbered n, from the entries with that number
abbrev pub slot_of : Shown → ℕ → List ℕ
slot_of x n =
    slot_bytes (numbered held_timing n x.detailed) (numbered held_pair n x.standard) (numbered held_point n x.points) (numbered worded n x.descriptors)

-- the pairs before the slots have the number 0
abbrev pub eight_of : Shown → List StandardTiming
eight_of x = numbered held_pair 0 x.standard

-- the front, the eight pairs, the four slots and the number of extensions: 127 bytes
unfoldable pub body : Shown → List ℕ
body x =
    front_bytes x.front
    ++ (pairs_bytes 8 (eight_of x)
    ++ (gather (λ i. slot_of x (i + 1)) 4
    ++ x.extensions ∷ []))

abbrev pub block_of : Shown → List ℕ
block_of x = body x ++ checksum (body x) ∷ []
