-- What holds of every list of bursts. `flatten` joins them; `after bs` is what a reader stands for that took the bursts bs. What follows from that, of the
-- answer and of the report, is in proofs/Theorems.
use Rattle.std.specs.Prelude.{ℕ, ◌-◌, ◌≤◌, ◌<◌, Bool, true, false, ◌≡◌, refl, leb, length, replicate, None}
use Rattle.std.proofs.Common.{sym, ◌∙◌, ap, arith, leb-true, leb-false, length-append}
use mathlib.Core.List.{List, [], ◌∷◌, ◌++◌, foldl-append, flatten}
use Rattle.steps.specs.Answers.{taken, Enough, within}
use Rattle.crate_reading.specs.Reading.{reading, answer}
use Rattle.crate_depth.specs.Whole.{begun_reading}
use Rattle.bursts.specs.Bursts.{report_of, told, held, stage_of, stage, standing, fresh, grow, after}

-- ---- the calls

-- a state that stands for what 146 zeros do that were lent to `take` with these bursts, one after the other
abbrev pub Made : List ℕ → List (List ℕ) → Type 0
Made state bs = standing state ≡ after bs

pub made_new : Made (replicate 146 0) []
unfolding held stage stage_of
made_new = refl

-- t is what `take` leaves of s
pub made_take : (s t : List ℕ) (bs : List (List ℕ)) (b : List ℕ) → Made s bs → standing t ≡ grow (standing s) b → Made t (bs ++ (b ∷ []))
made_take s t bs b m e = e ∙ ap (λ a. grow a b) m ∙ sym (foldl-append grow fresh bs (b ∷ []))

-- ---- the burst that reports

-- the n-th byte comes in the burst b, behind the bursts bs
pub record Brings (n : ℕ) (bs : List (List ℕ)) (b : List ℕ) : Type 0 where
  pub missing : length (flatten bs) < n
  pub there : n ≤ length (flatten (bs ++ (b ∷ [])))

-- b reports, between bs and cs: no burst before it tells anything, and it and every later one tell the answer of all
pub record Reported (bs : List (List ℕ)) (b : List ℕ) (cs : List (List ℕ)) : Type 0 where
  pub before : (xs ys : List (List ℕ)) → bs ≡ xs ++ ys → told (after xs).stage ≡ None
  pub then : (xs ys : List (List ℕ)) → cs ≡ xs ++ ys → told (after (bs ++ (b ∷ xs))).stage ≡ report_of (answer (flatten (bs ++ (b ∷ cs))))

-- there is such a burst wherever the input is not out of data
abbrev Split : ℕ → List (List ℕ) → Type 0
Split n all = (bs : List (List ℕ)) × (b : List ℕ) × (cs : List (List ℕ)) × (all ≡ bs ++ (b ∷ cs)) × Brings n bs b

split : (n : ℕ) (all : List (List ℕ)) → 0 < n → n ≤ length (flatten all) → Split n all
unfolding flatten
split n [] l h = absurd (omega arith)
split n (b ∷ all) l h = go (leb n (length b)) refl (split (n - length b) all)
  where
    go : (t : Bool) → leb n (length b) ≡ t → (0 < n - length b → n - length b ≤ length (flatten all) → Split (n - length b) all) → Split n (b ∷ all)
    go true q ih = ([], b, all, refl, record { missing = l; there = omega (arith, leb-true n (length b) q, length-append b []) })
    go false q ih =
        let (bs, c, cs, e, r) = ih (omega (arith, leb-false n (length b) q)) (omega (arith, length-append b (flatten all))) in (
          b ∷ bs,
          c,
          cs,
          ap (λ (x : List (List ℕ)). b ∷ x) e,
          record {
            missing = omega (arith, r.missing, leb-false n (length b) q, length-append b (flatten bs));
            there = omega (arith, r.there, length-append b (flatten (bs ++ (c ∷ []))));
          },
        )

pub brought : (all : List (List ℕ)) → Enough (answer (flatten all))
    → (bs : List (List ℕ)) × (b : List ℕ) × (cs : List (List ℕ)) × (all ≡ bs ++ (b ∷ cs)) × Brings (taken (answer (flatten all))) bs b
brought all e = split (taken (answer (flatten all))) all (begun_reading (flatten all) e) (within reading (flatten all) 0 (omega arith))
