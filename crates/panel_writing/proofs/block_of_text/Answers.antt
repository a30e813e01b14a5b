-- `panel_writing::block_of_text` meets its contract: by how the reading ended. Assumes nothing.
use mathlib.Core.Path.{refl}
use Rattle.panel_writing.specs.Answer.{wrong_length, not_understood, understood}
use Rattle.panel_writing.proofs.block_of_text.Goals as goal

pub returns-then-out-ne128 : goal.returns-then-out-ne128
returns-then-out-ne128 c = wrong_length c.if-out-ne128.true refl refl

pub returns-in-Err : goal.returns-in-Err
returns-in-Err c =
    not_understood c.if-out-ne128.false _ (rw c.read_panel-panel.ensures at c.in-Err.is) refl refl

pub returns-in-Ok : goal.returns-in-Ok
returns-in-Ok c =
    understood c.if-out-ne128.false (rw c.read_panel-panel.ensures at c.in-Ok.is) (rw (← c.read_panel-panel.ensures) c.write.ensures)
