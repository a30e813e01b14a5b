-- `standard_writing::fill_slots` meets its contract. The invariant: the slots so far stand in the block, and the lists are used up so far. Assumes nothing.
use Rattle.std.proofs.Common.{◌≡◌, ◌+◌, ◌*◌, ◌≤◌, ◌++◌, take}
use Rattle.fixed.specs.Gather.{gather}
use Rattle.standard_record.specs.Seen.{seen}
use Rattle.write_block.specs.Taken.{taken}
use Rattle.write_block.specs.Holds.{slot_from}
use Rattle.standard_writing.specs.Filled.{FitSoFar}
use Rattle.standard_writing.proofs.Laws.{After}
use Rattle.standard_writing.proofs.fill_slots.Given as goal

abbrev pub invariant-loop-i : goal.invariant-loop-i
invariant-loop-i l =
    (l.i ≤ 4) × After (seen l.r) l.i l.at × FitSoFar l.r l.lent l.i l.fits
    × (take (54 + 18 * l.i) l.block ≡ take 54 l.initial.block ++ gather (λ j. slot_from l.lent (taken (seen l.r) j)) l.i)
