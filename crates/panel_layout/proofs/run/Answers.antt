-- `panel_layout::run` meets its contract: the places whose lines pass are counted. Assumes nothing.
use Rattle.std.specs.Prelude.{ℕ, ◌≡◌, get_or, []}
use Rattle.std.specs.List.{range_with_len}
use Rattle.std.proofs.Common.{◌∙◌, rules, tests, arith}
use Rattle.std.proofs.lemmas.Iterator.{YieldsList-from_range}
use Rattle.std.proofs.lemmas.Iterator.Consumers.{count_from_yields_List}
use Rattle.std.proofs.lemmas.Iterator.Search.{YieldsList-from_take_while}
use Rattle.std.proofs.lemmas.List.Folds.{length-prefix_len}
use Rattle.text_lines.specs.Lines.{lines, counted}
use Rattle.panel_forms.specs.Numbers.{kind_number}
use Rattle.panel_forms.specs.Forms.{is_line}
use Rattle.panel_layout.specs.Layout.{run}
use Rattle.panel_layout.specs.Along.{run_is, run_few}
use Rattle.panel_layout.proofs.run.Goals as goal

pub returns : goal.returns
returns c =
    let ls = counted (lines c.args.s.now) in
    let test = λ (i : ℕ). is_line (kind_number c.args.kind) (get_or ls i []) in
    let from = YieldsList-from_range c.args.from _ c.args.most c.take_while.ensures.source (omega arith) in
    let many = count_from_yields_List _ _ c.count.ensures.ran (YieldsList-from_take_while _ test from c.take_while.ensures.closure c.take_while.ensures.done (λ x b q k. search (rules, tests))) in
    let is : c.count.result ≡ run (kind_number c.args.kind) c.args.most ls c.args.from = many ∙ length-prefix_len test (range_with_len c.args.from c.args.most) ∙ run_is (λ k. is_line (kind_number c.args.kind)) c.args.most ls c.args.from in
    (is, omega (arith, is, run_few (λ k. is_line (kind_number c.args.kind)) c.args.most ls c.args.from))
