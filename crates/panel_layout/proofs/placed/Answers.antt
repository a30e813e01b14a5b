-- `panel_layout::placed` meets its contract: each list begins where the one before it ends. Assumes nothing.
use Rattle.std.proofs.Common.{arith}
use Rattle.panel_layout.specs.Layout.{places_of}
use Rattle.panel_layout.proofs.placed.Goals as goal

pub returns : goal.returns
unfolding places_of
returns c = (
  rw (c.run-3.ensures.0, c.run-2.ensures.0, c.run.ensures.0, c.run-established.ensures.0),
  omega (arith, c.run-established.ensures.1, c.run.ensures.1, c.run-2.ensures.1, c.run-3.ensures.1),
)
