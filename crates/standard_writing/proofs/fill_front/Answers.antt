-- `standard_writing::fill_front` meets its contract: the front, then the pairs, laid one behind the other. Assumes nothing.
use Rattle.std.proofs.Common.{◌≡◌, [], ◌++◌, length, take, refl, ap, ◌∙◌, arith}
use Rattle.standard_record.specs.Seen.{seen}
use Rattle.write_pairs.specs.Pairs.{WritesPairs}
use Rattle.write_head.specs.Front.{front_bytes}
use Rattle.write_block.specs.Leaves.{pairs_length}
use Rattle.write_block.specs.Taken.{eight}
use Rattle.write_block.specs.Shown.{front_of}
use Rattle.write_block.specs.Holds.{structure_from}
use Rattle.standard_writing.proofs.Laws.{part_laid, front_fits_lem}
use Rattle.standard_writing.proofs.fill_front.Goals as goal

pub returns : goal.returns
unfolding seen front_bytes
returns c =
    let front_size : length c.front_bytes-front.result.bytes ≡ 38 = ap length c.front_bytes-front.ensures.made in
    let front_laid : take 38 c.lay.new.block ≡ c.front_bytes-front.result.bytes =
    rw c.lay.ensures (part_laid c.args.block.now c.front_bytes-front.result.bytes [] 0 38 (omega arith) front_size (omega arith) refl)
    in
    let pairs : WritesPairs (structure_from (seen c.args.r)) (eight (seen c.args.r)) c.pairs_bytes-eight.result.fits c.pairs_bytes-eight.result.bytes c.pairs_bytes-eight.result.many =
    rw c.requires at c.pairs_bytes-eight.ensures
    in
    let pairs_size : length c.pairs_bytes-eight.result.bytes ≡ 16 = ap length pairs.made ∙ pairs_length 8 (eight (seen c.args.r)) in
    let head = front_bytes (front_of (seen c.args.r)) in
    let e = part_laid c.lay.new.block c.pairs_bytes-eight.result.bytes head 38 16 (omega arith) pairs_size (omega arith) (front_laid ∙ c.front_bytes-front.ensures.made) in (
      (front_fits_lem c.args.r _ _ _ _ _ c.front_bytes-front.ensures pairs),
      pairs.count,
      rw c.lay-2.ensures (e ∙ ap (λ s. head ++ s) pairs.made),
    )
