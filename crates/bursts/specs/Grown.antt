-- Why the bursts may be joined: after them a reader stands for their bytes, however they came.
use Rattle.std.specs.Prelude.{ℕ, zero, suc, ◌-◌, Bool, true, false, ◌≡◌, refl, eqb, length, take}
use Rattle.std.proofs.Common.{sym, ◌∙◌, ap, arith, ne_eqb, eqb-true}
use mathlib.Core.List.{List, [], ◌∷◌, ◌++◌, foldl, flatten, append-nil, append_assoc}
use Rattle.std.proofs.lemmas.Bool.{eqb-false}
use Rattle.steps.specs.Steps.{Outcome, got, refused, run}
use Rattle.steps.specs.Laws.{picked_not}
use Rattle.steps.specs.Answers.{Enough}
use Rattle.steps.specs.Leaves.{byte, word, long}
use Rattle.crate_head.specs.Head.{header}
use Rattle.crate_end.specs.Ends.{ends, piece, went}
use Rattle.crate_end.specs.Whole.{went_end}
use Rattle.crate_end.specs.Onward.{resumed}
use Rattle.crate_depth.specs.Prefix.{stays}
use Rattle.bursts.specs.Bursts.{Stage, amid, known, Standing, end_or, settled, further, fresh, grow, after}

-- ---- what is told of an end: nothing exactly where it is out of data

-- an outcome is out of data, or not
pub by_enough : {A C : Type 0} (o : Outcome A) → ((n : ℕ) → o ≡ refused 1 n → C) → (Enough o → C) → C
by_enough (got a n) out on = on (λ m q. let z : ◌≡◌ {A = ℕ} 0 1 = cc in absurd (omega arith))
by_enough {A} {C} (refused k n) out on = go (eqb k 1) refl
  where
    go : (t : Bool) → eqb k 1 ≡ t → C
    go true q = out n (ap (λ (j : ℕ). refused j n) (eqb-true k 1 q))
    go false q = on (λ m r. let one : k ≡ 1 = cc in absurd (eqb-false k 1 q one))

pub settled_enough : (o : Outcome Unit) (on : Stage) → Enough o → end_or o on ≡ known o
settled_enough (got a n) on e = refl
settled_enough (refused k n) on e =
    picked_not (eqb k 1) on (known (refused k n)) (ne_eqb k 1 (λ q. e n (ap (λ (j : ℕ). refused j n) q)))

-- ---- after the bursts

-- going on over more bytes comes to where the reading of all of them comes
goes_on : (s t : List ℕ) → further (settled (went 5 0 s 0)) (s ++ t) ≡ settled (went 5 0 (s ++ t) 0)
goes_on s t =
    let w = went 5 0 s 0 in
    let all = went 5 0 (s ++ t) 0 in
    by_enough w.end
    (λ n e. ap (λ (o : Outcome Unit). further (end_or o (amid w.piece w.at)) (s ++ t)) e ∙ ap settled (resumed 5 0 s t 0 refl))
    (λ h.
    let enough : Enough (run ends s 0) = λ n q. h n (went_end 5 0 s 0 ∙ q) in
    let same : w.end ≡ all.end = went_end 5 0 s 0 ∙ sym (stays ends s t enough) ∙ sym (went_end 5 0 (s ++ t) 0) in
    ap (λ (u : Stage). further u (s ++ t)) (settled_enough w.end (amid w.piece w.at) h)
    ∙ sym (settled_enough w.end (amid all.piece all.at) h)
    ∙ ap (λ (o : Outcome Unit). end_or o (amid all.piece all.at)) same)

-- what stands for the bytes s
unfoldable pub so_far : List ℕ → Standing
so_far s = record { bytes = take 142 s; stage = settled (went 5 0 (take 142 s) 0) }

take_first : (n : ℕ) (s t : List ℕ) → take n (take n s ++ t) ≡ take n (s ++ t)
take_first zero s t = refl
take_first (suc n) [] t = refl
take_first (suc n) (x ∷ s) t = ap (λ (l : List ℕ). x ∷ l) (take_first n s t)

take_more : (n : ℕ) (s t : List ℕ) → take n (s ++ t) ≡ take n s ++ take (n - length s) t
take_more zero s t = let e : 0 ≡ 0 - length s = omega arith in ap (λ (k : ℕ). take k t) e
take_more (suc n) [] t = let e : suc n ≡ suc n - 0 = omega arith in ap (λ (k : ℕ). take k t) e
take_more (suc n) (x ∷ s) t =
    let e : n - length s ≡ suc n - suc (length s) = omega arith in
    ap (λ (l : List ℕ). x ∷ l) (take_more n s t ∙ ap (λ (k : ℕ). take n s ++ take k t) e)

-- of no bytes at all: they are out of data
nothing_yet : fresh ≡ so_far []
unfolding so_far went piece header long word byte
nothing_yet = refl

pub stands_for : (bs : List (List ℕ)) → after bs ≡ so_far (flatten bs)
unfolding so_far flatten
stands_for bs = ap (λ a. foldl grow a bs) nothing_yet ∙ grown_all [] bs
  where
    grown : (s b : List ℕ) → grow (so_far s) b ≡ so_far (s ++ b)
    grown s b =
        let u = settled (went 5 0 (take 142 s) 0) in
        let bytes : take 142 (take 142 s ++ b) ≡ take 142 (s ++ b) = take_first 142 s b in
        let parts : take 142 (s ++ b) ≡ take 142 s ++ take (142 - length s) b = take_more 142 s b in
        let stage : further u (take 142 (take 142 s ++ b)) ≡ settled (went 5 0 (take 142 (s ++ b)) 0) =
        ap (further u) (bytes ∙ parts) ∙ goes_on (take 142 s) (take (142 - length s) b) ∙ ap (λ (l : List ℕ). settled (went 5 0 l 0)) (sym parts) in
        λ i. record { bytes = bytes i; stage = stage i }

    grown_all : (s : List ℕ) (bs : List (List ℕ)) → foldl grow (so_far s) bs ≡ so_far (s ++ flatten bs)
    grown_all s [] = ap so_far (sym (append-nil s))
    grown_all s (b ∷ bs) = ap (λ a. foldl grow a bs) (grown s b) ∙ grown_all (s ++ b) bs ∙ ap so_far (append_assoc s b (flatten bs))
