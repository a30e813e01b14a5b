-- `cta_lines::listing` meets its contract: a listing is shorter than a page. Assumes nothing.
use Rattle.std.proofs.Common.{rules, refl}
use Rattle.page.specs.Meaning.{lent}
use Rattle.cta_lines.specs.Lines.{listing_of}
use Rattle.cta_lines.specs.Short.{printed}
use Rattle.cta_lines.proofs.listing.Goals as goal

pub returns : goal.returns
unfolding listing_of
returns c =
    let same = lent _ _ _ c.judged_lines.ensures in
    let whole = printed _ _ _ c.told-out refl (rw c.read_cta-t.ensures at c.judged_lines.ensures) in
    search rules
