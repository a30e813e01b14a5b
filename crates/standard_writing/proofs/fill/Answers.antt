-- `standard_writing::fill` meets its contract: the front, the slots, the last two bytes. Assumes nothing.
use Rattle.std.proofs.Common.{◌+◌, ◌-◌, ◌%◌, ◌&&◌, [], ◌∷◌, ◌++◌, sym, ap, ◌∙◌, arith}
use Rattle.fixed.specs.Gather.{gather}
use Rattle.sums.specs.Joined.{checksum}
use Rattle.standard_record.specs.Seen.{seen}
use Rattle.write_head.specs.Front.{front_bytes}
use Rattle.write_pairs.specs.Pairs.{pairs_bytes}
use Rattle.write_block.specs.Shown.{front_of}
use Rattle.write_block.specs.Taken.{eight, taken}
use Rattle.write_block.specs.Holds.{slot_from}
use Rattle.standard_writing.proofs.Laws.{end_laid, nested, block_fits, given_fits}
use Rattle.standard_writing.proofs.fill.Goals as goal

pub returns : goal.returns
unfolding seen
returns c =
    let r = c.args.r in
    let x = seen r in
    let lent = c.args.lent.now in
    let slots = gather (λ i. slot_from lent (taken x i)) 4 in
    let head = front_bytes (front_of x) in
    let eights = pairs_bytes 8 (eight x) in
    let is = c.fill_slots-slots.ensures.1 ∙ ap (λ s. s ++ slots) c.fill_front-begun.ensures.2 in
    let sum = c.byte_sum.ensures in
    let fits = ap (λ t. c.fill_front-begun.result.fits && (t && c.fill_slots-slots.result)) c.timing_first.ensures in
    record {
      is =
          end_laid c.fill_slots-slots.new.block ((head ++ eights) ++ slots) r.extensions ((0 + (256 - c.byte_sum.result)) % 256) (omega arith) is (omega arith) (omega (arith, sum))
          ∙ ap (λ s. s ++ checksum s ∷ []) (nested head eights slots (r.extensions ∷ []));
      sound = λ h. block_fits r lent _ _ c.fill_front-begun.ensures.0 c.fill_slots-slots.ensures.0 (sym fits ∙ h);
      complete = λ b g. fits ∙ given_fits r lent _ _ c.fill_front-begun.ensures.0 c.fill_slots-slots.ensures.0 b g;
    }
