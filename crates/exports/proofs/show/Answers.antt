-- `exports::show` meets its contract: the timing's numbers are copied over those lent. Assumes nothing.
use Rattle.std.proofs.Common.{rules, ℕ, Err, length, length-take, ap, ◌∙◌, arith}
use Rattle.picking.specs.Entry.{below_four}
use Rattle.exports.proofs.Laws.{told, its_numbers}
use Rattle.exports.proofs.show.Goals as goal

pub bounds-list-i : goal.bounds-list-i
bounds-list-i c = below_four c.args.limits c.args.list _ c.in-Ok.ensures

pub offset_bounds-list-i : goal.offset_bounds-list-i
offset_bounds-list-i c = let i = below_four c.args.limits c.args.list _ c.in-Ok.ensures in search rules

pub copy_from_slice-requires : goal.copy_from_slice-requires
copy_from_slice-requires c = omega (arith, c.requires, length-take 14 c.args.numbers.now, ap length c.numbers_of.ensures)

pub returns-in-Err : goal.returns-in-Err
returns-in-Err c =
    let a = c.args in
    ap (λ (n : ℕ). (n, a.numbers.now)) c.from.ensures ∙ told a.limits a.list a.numbers.now (Err _) c.in-Err.ensures

pub returns-in-Ok : goal.returns-in-Ok
returns-in-Ok c =
    let a = c.args in
    rw (c.copy_from_slice.ensures.after, c.numbers_of.ensures) (its_numbers a.limits a.list a.numbers.now _ _ c.in-Ok.ensures)
