-- `panel_lists::established` meets its contract: each word behind the first gives a number. Assumes nothing.
use Rattle.std.specs.Prelude.{refl}
use Rattle.std.proofs.Common.{rules, tests}
use Rattle.panel_lists.specs.Lists.{numbers_of, established_of}
use Rattle.panel_lists.proofs.established.Goals as goal

pub returns : goal.returns
unfolding established_of
returns c =
    let h = c.filled-len.ensures 0 (numbers_of c.args.l.now) refl (λ i r m p. search (rules, tests)) in
    λ j. record { items = h.are j; len = h.many j }
