-- `panel_layout::heads` meets its contract. The invariant: the first k lines are due. Assumes nothing.
use Rattle.text_lines.specs.Lines.{lines, counted}
use Rattle.panel_forms.specs.Forms.{is_line}
use Rattle.panel_layout.specs.Along.{Passed}
use Rattle.panel_layout.proofs.heads.Given as goal

abbrev pub invariant-loop-k : goal.invariant-loop-k
invariant-loop-k l = Passed is_line (counted (lines l.s)) 7 l.k
