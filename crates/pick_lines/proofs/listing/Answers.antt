-- `pick_lines::listing` meets its contract: an answer is shorter than a page. Assumes nothing.
use Rattle.std.proofs.Common.{rules, refl}
use Rattle.page.specs.Meaning.{lent}
use Rattle.pick_lines.specs.Short.{printed}
use Rattle.pick_lines.proofs.listing.Goals as goal

pub returns : goal.returns
returns c =
    let same = lent _ _ _ c.answer_lines.ensures in
    let whole = printed _ _ _ c.told-out refl (c.answer_lines.ensures) in
    search rules
