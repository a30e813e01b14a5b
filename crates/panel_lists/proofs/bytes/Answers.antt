-- `panel_lists::bytes` meets its contract. The invariant: the bytes of the lines passed are in the array. Assumes nothing.
use Rattle.std.specs.Prelude.{◌≡◌, ◌≤◌, ◌+◌, ◌-◌, ◌*◌}
use Rattle.std.proofs.Common.{arith}
use Rattle.panel_lists.specs.Lists.{bytes_of, between}
use Rattle.panel_lists.specs.Laws.{full, laid, all_laid}
use Rattle.panel_lists.proofs.bytes.Goals as goal

pub returns-in_default : goal.returns-in_default
unfolding bytes_of
returns-in_default c = (all_laid _ _ c.loop-i.invariant c.in_default.ensures).are

pub loop-i-preserved : goal.loop-i-preserved
loop-i-preserved c =
    let i = c.loop-i.i in
    let e : 13 * i + 13 - 13 * i ≡ 13 = omega arith in
    rw (e, c.copy_from_slice.ensures.after, c.places.ensures, c.kept.ensures)
    (laid (between c.args.s.now c.args.from c.args.to) i c.in-Some.l.now c.in-Some.ensures c.loop-i.invariant (omega (arith, c.loop-i-test.true)))

pub returns : goal.returns
unfolding bytes_of
returns c = let all : 39 ≤ 13 * c.loop-i.i = omega (arith, c.loop-i-test.false) in (full c.loop-i.invariant all).are
