-- `cta_reading::append` meets its contract. The invariant: with i bytes more, the first i bytes of the run are pushed. Assumes nothing.
use Prim.Native.Nat.{◌+◌}
use mathlib.Core.Path.{◌≡◌}
use lib.ListN.{take}
use Rattle.fixed.specs.Fixed.{push, pushed}
use Rattle.cta_reading.proofs.append.Given as goal

abbrev pub invariant-loop-i : goal.invariant-loop-i
invariant-loop-i l =
    (l.video.len ≡ l.from) × (record { items = l.video.items; len = l.from + l.i } ≡ pushed (push 119) l.initial.video (take l.i l.run))
