-- `marking::listing` meets its contract: a listing is shorter than a page. Assumes nothing.
use Rattle.std.proofs.Common.{rules, refl}
use Rattle.page.specs.Meaning.{lent}
use Rattle.marking.specs.Short.{printed}
use Rattle.marking.proofs.listing.Goals as goal

pub returns : goal.returns
returns c =
    let same = lent _ _ _ c.marks_lines.ensures in
    let whole = printed _ _ _ c.told-out refl (rw c.marks_of.ensures at c.marks_lines.ensures) in
    search rules
