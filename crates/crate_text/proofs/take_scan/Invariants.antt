-- `crate_text::take_scan` meets its contract: what is left of the scan at the cursor. Assumes nothing.
use Prim.Native.Nat.{◌-◌}
use Rattle.steps.specs.Took.{Left}
use Rattle.crate_text.specs.Text.{scan}
use Rattle.crate_text.proofs.take_scan.Given as goal

abbrev pub invariant-loop-i : goal.invariant-loop-i
invariant-loop-i l = Left (scan 13 0) l.initial.c (scan (13 - l.i) l.i) l.c
