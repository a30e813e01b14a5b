-- `write_slots::offset_code` meets its contract: by its tests. Assumes nothing.
use native.Mathlib.Omega.{arith}
use mathlib.Core.Path.{refl}
use borrow.Author.Tests.{le-leb, lt-leb}
use Rattle.write_slots.proofs.offset_code.Goals as goal

pub returns-then-min-ge256 : goal.returns-then-min-ge256
returns-then-min-ge256 c = rw (le-leb _ _ c.if-min-ge256.true) (refl, omega arith)

pub returns-then-max-ge256 : goal.returns-then-max-ge256
returns-then-max-ge256 c = rw (lt-leb _ _ c.if-min-ge256.false, le-leb _ _ c.if-max-ge256.true) (refl, omega arith)

pub returns : goal.returns
returns c = rw (lt-leb _ _ c.if-min-ge256.false, lt-leb _ _ c.if-max-ge256.false) (refl, omega arith)
