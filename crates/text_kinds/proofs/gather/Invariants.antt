-- `text_kinds::gather` meets its contract. The invariant: the bytes read are in the array, and what is left is behind them. Assumes nothing.
use Rattle.std.specs.Prelude.{◌-◌}
use Rattle.text_kinds.specs.Gathered.{Gathered}
use Rattle.text_kinds.proofs.gather.Given as goal

abbrev pub invariant-loop-len : goal.invariant-loop-len
invariant-loop-len l = Gathered l.quoted l.w l.bytes l.len (13 - l.len) l.rest
