-- `naming::part_of` meets its contract: the part begins where it is said, and has as many bytes. Assumes nothing.
use mathlib.Core.Path.{refl}
use native.Mathlib.Nat.{add-sub_cancel_left}
use native.Mathlib.Omega.{arith}
use borrow.Author.Rules.{rules}
use Rattle.naming.proofs.part_of.Goals as goal

pub returns : goal.returns
returns c = record { inside = search rules; memory = refl; offset = omega arith; bytes = rw add-sub_cancel_left }
