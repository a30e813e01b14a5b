-- `marking::codes_zero` meets its contract. The invariant: `found` is what the first i pairs come to. Assumes nothing.
use Rattle.std.proofs.Common.{◌≡◌}
use Rattle.marking.specs.Marks.{codes_zero}
use Rattle.marking.proofs.codes_zero.Given as goal

abbrev pub invariant-loop-i : goal.invariant-loop-i
invariant-loop-i l = l.found ≡ codes_zero l.t l.k l.i
