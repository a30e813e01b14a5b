-- `panel_lists::entries` meets its contract: each line gives an entry, by its place too. Assumes nothing.
use Rattle.std.specs.Prelude.{refl}
use Rattle.std.proofs.Common.{sym, ◌∙◌, rules, tests}
use Rattle.standard_record.specs.Filler.{blank_held}
use Rattle.panel_lists.specs.Lists.{between, held_from, entries_of}
use Rattle.panel_lists.specs.Laws.{held_at}
use Rattle.panel_lists.proofs.entries.Goals as goal

pub returns : goal.returns
unfolding entries_of
returns c =
    let h = c.filled-len.ensures blank_held (held_from 0 (between c.args.s.now c.args.from c.args.to)) refl (λ i r m p. sym (held_at (between c.args.s.now c.args.from c.args.to) i ∙ search (rules, tests))) in
    λ j. record { items = h.are j; len = h.many j }
