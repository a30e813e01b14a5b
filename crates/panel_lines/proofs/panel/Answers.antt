-- `panel_lines::panel` meets its contract: a text is shorter than a page. Assumes nothing.
use Rattle.std.proofs.Common.{rules, refl}
use Rattle.page.specs.Meaning.{lent}
use Rattle.panel_lines.specs.Lines.{panel_text}
use Rattle.panel_lines.specs.Short.{printed}
use Rattle.panel_lines.proofs.panel.Goals as goal

pub returns : goal.returns
unfolding panel_text
returns c =
    let same = lent _ _ _ c.judged_text.ensures in
    let whole = printed _ c.args.t _ _ c.told-out refl (c.judged_text.ensures) in
    search rules
