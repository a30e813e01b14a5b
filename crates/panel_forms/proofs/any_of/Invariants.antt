-- `panel_forms::any_of` meets its contract. The invariant: the line has a form if it has one of those left. Assumes nothing.
use mathlib.Core.Path.{◌≡◌}
use lib.ListN.{drop}
use Rattle.text_lines.specs.Lines.{lines, counted}
use Rattle.panel_forms.specs.Forms.{any_of}
use Rattle.panel_forms.proofs.any_of.Given as goal

abbrev pub invariant-loop-k : goal.invariant-loop-k
invariant-loop-k l = any_of (counted (lines l.forms)) l.l ≡ any_of (drop l.k (counted (lines l.forms))) l.l
