-- `panel_forms::is_line` meets its contract: a number above 12 is of no kind. Assumes nothing.
use Rattle.std.proofs.Common.{sym, refl}
use Rattle.panel_forms.specs.Laws.{no_kind}
use Rattle.panel_forms.proofs.is_line.Goals as goal

pub returns-in-None : goal.returns-in-None
returns-in-None c = sym (no_kind _ _ (c.in-None.ensures.none refl))
