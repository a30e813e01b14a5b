-- `picking::choose` meets its contract. The invariant: of the timings from k on, `most` is the greatest score and `at` the first index of it.
-- Assumes nothing.
use mathlib.Core.List.{map}
use lib.ListN.{take}
use Rattle.picking.specs.Score.{score_of}
use Rattle.picking.proofs.Laws.{FromOn}
use Rattle.picking.proofs.choose.Given as goal

abbrev pub invariant-loop-k : goal.invariant-loop-k
invariant-loop-k l = FromOn (score_of l.limits) (map (λ h. h.timing) (take l.end l.items)) l.k l.most l.at
