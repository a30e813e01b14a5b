-- `write_pairs::pairs_bytes` meets its contract. The invariant: what stands so far is the run up to here. Assumes nothing.
use Prim.Native.Nat.{◌+◌, ◌≤◌}
use mathlib.Core.Path.{◌≡◌}
use lib.ListN.{take, drop}
use Rattle.write_pairs.proofs.Laws.{SoFar}
use Rattle.write_pairs.proofs.pairs_bytes.Given as goal

abbrev pub invariant-loop-k : goal.invariant-loop-k
invariant-loop-k l =
    (l.many ≤ l.limit) × (l.k ≡ l.from + l.many) × SoFar l.structure (drop l.from (take l.end l.items)) l.number l.many l.fits l.bytes
