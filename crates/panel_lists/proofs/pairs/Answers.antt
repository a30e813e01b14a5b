-- `panel_lists::pairs` meets its contract: each line gives a pair. Assumes nothing.
use Rattle.std.specs.Prelude.{refl, map}
use Rattle.std.proofs.Common.{sym, ◌∙◌, rules, tests}
use Rattle.std.proofs.lemmas.Option.{slice_get-map}
use Rattle.standard_record.specs.Filler.{blank_standard}
use Rattle.panel_entries.specs.Entries.{pair_of}
use Rattle.panel_lists.specs.Lists.{between, pairs_of}
use Rattle.panel_lists.proofs.pairs.Goals as goal

pub returns : goal.returns
unfolding pairs_of
returns c =
    let h = c.filled-len.ensures blank_standard (map pair_of (between c.args.s.now c.args.from c.args.to)) refl (λ i r m p. sym (slice_get-map pair_of (between c.args.s.now c.args.from c.args.to) i ∙ search (rules, tests))) in
    λ j. record { items = h.are j; len = h.many j }
