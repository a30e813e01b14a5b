-- `text_lines::is_idle` meets its contract: each byte is looked at. Assumes nothing.
use Rattle.std.specs.Prelude.{ℕ, ◌≡◌, false, List, [], ◌∷◌, refl, ◌&&◌, nat_eq}
use Rattle.std.specs.List.{list_all, starts_with}
use mathlib.Core.Bool.{true≢false}
use Rattle.std.proofs.Common.{ap, sym, ◌∙◌, ne_eqb, rules, tests}
use Rattle.std.proofs.lemmas.Iterator.{YieldsList-from_slice}
use Rattle.std.proofs.lemmas.Iterator.Search.{all_from_yields_List}
use Rattle.text_words.specs.Words.{is_blank}
use Rattle.text_lines.specs.Lines.{is_idle, all_blank}
use Rattle.text_lines.proofs.is_idle.Goals as goal

all_are : (l : List ℕ) → list_all is_blank l ≡ all_blank l
all_are [] = refl
all_are (b ∷ l) = ap (λ t. is_blank b && t) (all_are l)

no_comment : (l : List ℕ) → starts_with nat_eq l (35 ∷ []) ≡ false → all_blank l ≡ is_idle l
no_comment [] h = refl
no_comment (b ∷ l) h = rw (ne_eqb b 35 (λ e. true≢false (rw e at h)))

pub returns-else-starts_with : goal.returns-else-starts_with
returns-else-starts_with c =
    let l = c.args.l.now in
    let all = all_from_yields_List is_blank _ _ _ c.all.ensures.ran (YieldsList-from_slice l c.iter.ensures.rest) (λ x b q k. search (rules, tests)) in
    all ∙ all_are l ∙ no_comment l (sym c.starts_with.ensures.value ∙ c.if-starts_with.false)
