-- `text_lines::line_at` meets its contract: the newlines before the byte are counted. Assumes nothing.
use Rattle.std.specs.Prelude.{ℕ, ◌≡◌, Bool, true, false, List, [], ◌∷◌, refl, cond, take, length, suc}
use Rattle.std.specs.List.{filter}
use Rattle.std.specs.Slice.Iter.{iter_rest}
use Rattle.std.specs.Iterator.Adapters.{take_source, take_count}
use Rattle.std.proofs.Common.{ap, ◌∙◌, rules, tests, arith}
use Rattle.std.proofs.lemmas.Iterator.{YieldsList-from_slice, YieldsList-from_take}
use Rattle.std.proofs.lemmas.Iterator.Consumers.{YieldsList-from_filter, count_from_yields_List}
use Rattle.text_lines.specs.Lines.{is_newline, newlines}
use Rattle.text_lines.proofs.line_at.Goals as goal

newlines_are : (s : List ℕ) → length (filter is_newline s) ≡ newlines s
unfolding newlines
newlines_are [] = refl
newlines_are (b ∷ s) = go (is_newline b) (newlines_are s)
  where
    go : (t : Bool) → length (filter is_newline s) ≡ newlines s → length (cond t (b ∷ filter is_newline s) (filter is_newline s)) ≡ cond t (suc (newlines s)) (newlines s)
    go true e = omega (arith, e)
    go false e = e

pub returns : goal.returns
returns c =
    let s = c.args.s.now in
    let from = YieldsList-from_slice s (ap (λ i. iter_rest (take_source i)) c.filter.ensures.source ∙ ap iter_rest c.take.ensures.source ∙ c.iter.ensures.rest) in
    let some = YieldsList-from_take c.args.n from (ap take_count c.filter.ensures.source ∙ c.take.ensures.count) in
    let many = count_from_yields_List _ _ c.count.ensures.ran (YieldsList-from_filter _ is_newline some c.filter.ensures.closure (λ x b q k. search (rules, tests))) in
    omega (arith, many, newlines_are (take c.args.n s))
