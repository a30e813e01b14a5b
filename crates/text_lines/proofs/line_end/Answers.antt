-- `text_lines::line_end` meets its contract: by where the first newline stands. Assumes nothing.
use Rattle.std.specs.Prelude.{ℕ, suc, ◌+◌, ◌≤◌, ◌≡◌, Bool, true, false, not, Option, Some, None, ltb, List, [], ◌∷◌, refl, cond, drop}
use Rattle.std.specs.List.{position_or_len}
use Rattle.std.proofs.Common.{ap, sym, ◌∙◌, rules, tests, arith, length-drop}
use Rattle.std.proofs.lemmas.Iterator.{YieldsList-from_slice}
use Rattle.std.proofs.lemmas.Iterator.Search.{position_from_yields_List}
use Rattle.std.proofs.lemmas.List.{take_rest}
use Rattle.std.proofs.lemmas.List.Sums.{prefix_len-le-length}
use Rattle.text_lines.specs.Lines.{is_newline}
use Rattle.text_lines.specs.Scan.{line_length}
use Rattle.text_lines.proofs.line_end.Goals as goal

line_is : (s : List ℕ) → position_or_len is_newline s ≡ line_length s
unfolding line_length
line_is [] = refl
line_is (b ∷ s) = go (is_newline b) (line_is s)
  where
    go : (t : Bool) → position_or_len is_newline s ≡ line_length s → cond (not t) (1 + position_or_len is_newline s) 0 ≡ cond t 0 (suc (line_length s))
    go true e = refl
    go false e = omega (arith, e)

-- what `position` answers
abbrev place : ℕ → ℕ → Option ℕ
place m l = cond (ltb m l) (Some m) None

some_is : (m l n : ℕ) → place m l ≡ Some n → n ≡ m
some_is m l n = go (ltb m l)
  where
    go : (t : Bool) → cond t (Some m) None ≡ Some n → n ≡ m
    go true e = ap (λ (o : Option ℕ). elim o [ None ↦ m | Some x ↦ x ]) (sym e)
    go false e = absurd (grind (arith, e))

none_is : (m l : ℕ) → m ≤ l → place m l ≡ None → l ≡ m
none_is m l h = go (ltb m l) refl
  where
    go : (t : Bool) → ltb m l ≡ t → cond t (Some m) None ≡ None → l ≡ m
    go true i e = absurd (grind (arith, e))
    go false i e = grind arith

pub returns-in-Some : goal.returns-in-Some
returns-in-Some c =
    let s = drop c.args.at c.args.s.now in
    let found = position_from_yields_List is_newline _ _ c.position.result c.position.ensures.ran (YieldsList-from_slice s (c.iter.ensures.rest ∙ take_rest c.args.s.now c.args.at)) (λ x b q k. search (rules, tests)) in
    ap (λ n. c.args.at + n) (some_is _ _ _ (sym found ∙ c.in-Some.is) ∙ line_is s)

pub returns-in-None : goal.returns-in-None
returns-in-None c =
    let s = drop c.args.at c.args.s.now in
    let found = position_from_yields_List is_newline _ _ c.position.result c.position.ensures.ran (YieldsList-from_slice s (c.iter.ensures.rest ∙ take_rest c.args.s.now c.args.at)) (λ x b q k. search (rules, tests)) in
    let e = none_is _ _ (prefix_len-le-length _ s) (sym found ∙ c.in-None.is) in
    omega (arith, e, line_is s, length-drop c.args.at c.args.s.now, c.requires)
