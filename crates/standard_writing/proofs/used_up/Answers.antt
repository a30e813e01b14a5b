-- `standard_writing::used_up` meets its contract: by what its callees ensure. Assumes nothing.
use Rattle.std.proofs.Common.{◌≡◌, length, arith}
use Rattle.standard_writing.proofs.Laws.{all_ended}
use Rattle.standard_writing.proofs.used_up.Goals as goal

pub returns : goal.returns
returns c =
    let t : length c.args.r.timings.detailed.items ≡ 4 = omega arith in
    let p : length c.args.r.timings.standard.items ≡ 26 = omega arith in
    let w : length c.args.r.color.points.items ≡ 6 = omega arith in
    let d : length c.args.r.descriptors.items ≡ 3 = omega arith in
    rw (
      c.ended-4.ensures,
      c.ended-3.ensures,
      c.ended-2.ensures,
      c.ended.ensures,
    ) (all_ended c.args.r c.args.at t p w d)
