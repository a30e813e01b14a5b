-- `text_words::gap_end` meets its contract: the blanks that come first are counted. Assumes nothing.
use Rattle.std.specs.Prelude.{ℕ, ◌+◌, ◌≡◌, List, [], ◌∷◌, refl, cond, drop}
use Rattle.std.specs.List.{prefix_len}
use Rattle.std.specs.Slice.Iter.{iter_rest}
use Rattle.std.proofs.Common.{ap, ◌∙◌, rules, tests, arith}
use Rattle.std.proofs.lemmas.Iterator.{YieldsList-from_slice}
use Rattle.std.proofs.lemmas.Iterator.Consumers.{count_from_yields_List}
use Rattle.std.proofs.lemmas.Iterator.Search.{YieldsList-from_take_while}
use Rattle.std.proofs.lemmas.List.{take_rest}
use Rattle.std.proofs.lemmas.List.Folds.{length-prefix_len}
use Rattle.text_words.specs.Words.{is_blank}
use Rattle.text_words.specs.Scan.{gap_length}
use Rattle.text_words.proofs.gap_end.Goals as goal

gap_is : (s : List ℕ) → prefix_len is_blank s ≡ gap_length s
unfolding gap_length
gap_is [] = refl
gap_is (b ∷ s) = ap (λ n. cond (is_blank b) n 0) (omega (arith, gap_is s))

pub returns : goal.returns
returns c =
    let s = drop c.args.at c.args.l.now in
    let from = YieldsList-from_slice s (ap iter_rest c.take_while.ensures.source ∙ c.iter.ensures.rest ∙ take_rest c.args.l.now c.args.at) in
    let many = count_from_yields_List _ _ c.count-blanks.ensures.ran (YieldsList-from_take_while _ is_blank from c.take_while.ensures.closure c.take_while.ensures.done (λ x b q k. search (rules, tests))) in
    ap (λ n. c.args.at + n) (many ∙ length-prefix_len is_blank s ∙ gap_is s)
