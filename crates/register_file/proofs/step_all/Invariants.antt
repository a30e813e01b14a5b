-- `register_file::step_all` meets its contract. The invariant: what is written, and behind it what the records that are left come to, is what all of them come to. Assumes nothing.
use Prim.Native.Nat.{◌*◌, ◌-◌, ◌≤◌}
use mathlib.Core.Path.{◌≡◌}
use lib.ListN.{length, take, drop}
use Rattle.register_file.specs.File.{converted}
use Rattle.register_file.specs.Laws.{ahead}
use Rattle.register_file.proofs.step_all.Given as goal

abbrev pub invariant-loop-i : goal.invariant-loop-i
invariant-loop-i l =
    (l.at ≤ length l.source)
    × (l.at ≤ 264 * l.i)
    × (l.end ≤ 264 * l.i)
    × (length l.output ≡ 65536)
    × (ahead (take l.end l.output) l.i (converted l.way (248 - l.i) (drop l.at l.source)) ≡ converted l.way 248 l.source)
