-- `panel_lists::timings` meets its contract: each line gives a timing. Assumes nothing.
use Rattle.std.specs.Prelude.{refl, map}
use Rattle.std.proofs.Common.{sym, ◌∙◌, rules, tests}
use Rattle.std.proofs.lemmas.Option.{slice_get-map}
use Rattle.standard_record.specs.Filler.{blank_detailed}
use Rattle.panel_entries.specs.Entries.{held_timing_of}
use Rattle.panel_lists.specs.Lists.{between, timings_of}
use Rattle.panel_lists.proofs.timings.Goals as goal

pub returns : goal.returns
unfolding timings_of
returns c =
    let h = c.filled-len.ensures blank_detailed (map held_timing_of (between c.args.s.now c.args.from c.args.to)) refl (λ i r m p. sym (slice_get-map held_timing_of (between c.args.s.now c.args.from c.args.to) i ∙ search (rules, tests))) in
    λ j. record { items = h.are j; len = h.many j }
