-- `name_lines::listing` meets its contract: a line is shorter than a page. Assumes nothing.
use Rattle.std.proofs.Common.{rules, refl}
use Rattle.page.specs.Meaning.{lent}
use Rattle.name_lines.specs.Short.{printed}
use Rattle.name_lines.proofs.listing.Goals as goal

pub returns : goal.returns
returns c =
    let same = lent _ _ _ c.shown_line.ensures in
    let whole = printed _ _ _ _ c.told-out refl (c.shown_line.ensures) in
    search rules
