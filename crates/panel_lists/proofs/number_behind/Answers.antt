-- `panel_lists::number_behind` meets its contract: by whether a word stands there. Assumes nothing.
use Rattle.std.specs.Prelude.{Some}
use Rattle.std.proofs.Common.{sym, ap, ◌∙◌}
use Rattle.panel_lists.specs.Laws.{number_told, numbers_over}
use Rattle.panel_lists.proofs.number_behind.Goals as goal

pub returns-then-last_word : goal.returns-then-last_word
returns-then-last_word c = numbers_over _ _ (sym c.last_word.ensures ∙ c.if-last_word.true)

pub returns-else-last_word : goal.returns-else-last_word
returns-else-last_word c = ap Some c.number.ensures ∙ number_told _ _ (sym c.last_word.ensures ∙ c.if-last_word.false)
