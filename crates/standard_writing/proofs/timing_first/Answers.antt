-- `standard_writing::timing_first` meets its contract: what the first slot takes of the timings is the first of them, or none. Assumes nothing.
use Rattle.std.proofs.Common.{◌≡◌, Option, Some, None, is_some, ltb, length, refl, sym, ap, ◌∙◌, arith}
use Rattle.standard_record.specs.Seen.{seen}
use Rattle.standard_record.specs.Held.{held_timing}
use Rattle.standard_record.specs.declared.DetailedTiming.{DetailedTiming}
use Rattle.write_next.specs.Next.{of_timing}
use Rattle.write_next.specs.Laws.{own_is}
use Rattle.write_block.specs.Taken.{rest, taken}
use Rattle.standard_writing.proofs.Laws.{timings_next}
use Rattle.standard_writing.proofs.timing_first.Goals as goal

some_is : (t : Option DetailedTiming) → is_some t ≡ ltb 0 (length (of_timing t))
some_is (Some d) = refl
some_is None = refl

pub returns : goal.returns
unfolding seen rest
returns c =
    let whole : length c.args.r.timings.detailed.items ≡ 4 = omega arith in
    let first : length (of_timing c.next_timing.result) ≡ length (taken (seen c.args.r) 0).timings =
    ap length (c.next_timing.ensures ∙ own_is held_timing 1 c.args.r.timings.detailed.items c.args.r.timings.detailed.len 4 0 whole _ ∙ sym (timings_next 1 _))
    in
    c.is_some.ensures ∙ some_is c.next_timing.result ∙ ap (λ n. ltb 0 n) first
