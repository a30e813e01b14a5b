-- `text_kinds::fits` meets its contract: each word may stand for that of the form, and there are as many. Assumes nothing.
use Rattle.std.specs.Prelude.{ℕ, suc, ◌+◌, ◌-◌, ◌≡◌, Bool, false, ◌&&◌, eqb, List, [], ◌∷◌, length, get_or}
use Rattle.std.specs.List.{list_all, range_with_len}
use Rattle.std.proofs.Math.Bool.{and_assoc, and-false}
use Rattle.std.proofs.Math.Dec.{eqb-suc-zero, eqb-zero-suc, eqb-suc-suc}
use Rattle.std.proofs.Common.{add-one, refl, sym, ap, ap₂, ◌∙◌, rules, tests, arith}
use Rattle.std.proofs.lemmas.Iterator.{YieldsList-from_range}
use Rattle.std.proofs.lemmas.Iterator.Search.{all_from_yields_List}
use Rattle.text_words.specs.Words.{words}
use Rattle.text_words.specs.Scan.{words_some}
use Rattle.text_kinds.specs.Kinds.{may, fits}
use Rattle.text_kinds.specs.Laws.{shifted}
use Rattle.text_kinds.proofs.fits.Goals as goal

-- whether the word at a place may stand for that of the form
abbrev fit_at : List (List ℕ) → List (List ℕ) → ℕ → Bool
fit_at fs ws k = may (get_or fs k []) (get_or ws k [])

fits_are : (fs ws : List (List ℕ)) → fits fs ws ≡ (list_all (fit_at fs ws) (range_with_len 0 (length fs)) && eqb (length ws) (length fs))
unfolding fits
fits_are [] [] = refl
fits_are [] (w ∷ ws) = sym (eqb-suc-zero (length ws))
fits_are (f ∷ fs) [] = rw (eqb-zero-suc (length fs)) (sym (and-false (list_all (fit_at (f ∷ fs) []) (range_with_len 0 (suc (length fs))))))
fits_are (f ∷ fs) (w ∷ ws) =
    let behind = shifted (fit_at (f ∷ fs) (w ∷ ws)) (fit_at fs ws) (λ k. rw (add-one k)) 0 (length fs) in
    ap (λ t. may f w && t) (fits_are fs ws)
    ∙ sym (and_assoc (may f w) (list_all (fit_at fs ws) (range_with_len 0 (length fs))) (eqb (length ws) (length fs)))
    ∙ ap₂ (λ t u. (may f w && t) && u) (sym behind) (sym (eqb-suc-suc (length ws) (length fs)))

pub returns-then-all : goal.returns-then-all
returns-then-all c =
    let fs = words c.args.form.now in
    let ws = words c.args.l.now in
    let all = all_from_yields_List (fit_at fs ws) _ _ c.all.result c.all.ensures.ran (YieldsList-from_range 0 c.count-n.result (length fs) refl (search rules)) (λ x b q k. search (rules, tests)) in
    let n : c.count-n.result - 1 + 1 ≡ length fs = omega (arith, c.count-n.ensures, words_some false c.args.form.now) in
    rw (c.ends_at.ensures, n, fits_are fs ws, ← all, c.if-all.true)

pub returns-else-all : goal.returns-else-all
returns-else-all c =
    let fs = words c.args.form.now in
    let ws = words c.args.l.now in
    let all = all_from_yields_List (fit_at fs ws) _ _ c.all.result c.all.ensures.ran (YieldsList-from_range 0 c.count-n.result (length fs) refl (search rules)) (λ x b q k. search (rules, tests)) in
    rw (fits_are fs ws, ← all, c.if-all.false)

pub overflow_sub-n : goal.overflow_sub-n
overflow_sub-n c = omega (arith, c.count-n.ensures, words_some false c.args.form.now)
