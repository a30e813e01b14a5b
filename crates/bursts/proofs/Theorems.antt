-- What holds of every list of bursts, since after them a reader stands for their bytes.
use Rattle.std.specs.Prelude.{ℕ, ◌+◌, ◌≤◌, ◌<◌, ◌≡◌, refl, length, Some, None, Err}
use Rattle.std.proofs.Common.{sym, ◌∙◌, ap, subst, arith, length-append}
use mathlib.Core.List.{List, [], ◌∷◌, ◌++◌, flatten, append_assoc}
use Rattle.steps.specs.Steps.{Outcome, got, refused}
use Rattle.steps.specs.Answers.{taken, Enough}
use Rattle.steps.specs.declared.Refusal.{Refusal}
use Rattle.crate_record.specs.declared.EDID.{EDID}
use Rattle.crate_reading.specs.Reading.{reading, answer}
use Rattle.crate_depth.specs.Whole.{first_142}
use Rattle.crate_depth.specs.Prefix.{stays, not_before, at_once}
use Rattle.bursts.specs.Bursts.{report_of, told, held, after}
use Rattle.bursts.specs.Grown.{by_enough, so_far, stands_for}
use Rattle.bursts.proofs.Grown.{says_nothing, says}
use Rattle.bursts.specs.Theorems.{Made, Brings, Reported}

-- it is that of the bursts joined, to the last field: `end` and `finish` answer by the bytes held
pub joined : (state : List ℕ) (bs : List (List ℕ)) → Made state bs → answer (held state) ≡ answer (flatten bs)
unfolding so_far
joined state bs m = ap (λ a. answer a.bytes) (m ∙ stands_for bs) ∙ first_142 (flatten bs)

-- how the input is cut makes no difference, to the answer or to anything else that stands
pub any_cut : (bs cs : List (List ℕ)) → flatten bs ≡ flatten cs → after bs ≡ after cs
any_cut bs cs e = stands_for bs ∙ ap so_far e ∙ sym (stands_for cs)

flatten_append : (bs cs : List (List ℕ)) → flatten (bs ++ cs) ≡ flatten bs ++ flatten cs
unfolding flatten
flatten_append [] cs = refl
flatten_append (b ∷ bs) cs = ap (λ (l : List ℕ). b ++ l) (flatten_append bs cs) ∙ sym (append_assoc b (flatten bs) (flatten cs))

-- an empty burst changes nothing, wherever it comes
pub empty_burst : (bs cs : List (List ℕ)) → after (bs ++ ([] ∷ cs)) ≡ after (bs ++ cs)
unfolding flatten
empty_burst bs cs = any_cut (bs ++ ([] ∷ cs)) (bs ++ cs) (flatten_append bs ([] ∷ cs) ∙ sym (flatten_append bs cs))

module _ (bs cs : List (List ℕ)) where
  -- with the whole input as the two joined
  whole : (P : List ℕ → Type 0) → P (flatten (bs ++ cs)) → P (flatten bs ++ flatten cs)
  whole P = subst P (flatten_append bs cs)

  -- while the last byte that the answer takes is to come, nothing is told
  pub not_earlier : length (flatten bs) < taken (answer (flatten (bs ++ cs))) → told (after bs).stage ≡ None
  not_earlier h =
      says_nothing bs (length (flatten bs))
      (not_before reading (flatten bs) (flatten cs) (whole (λ l. length (flatten bs) < taken (answer l)) h))

  -- once it is there, the answer of the whole input is
  pub not_later : Enough (answer (flatten (bs ++ cs))) → taken (answer (flatten (bs ++ cs))) ≤ length (flatten bs)
      → told (after bs).stage ≡ report_of (answer (flatten (bs ++ cs)))
  not_later e h =
      let same : answer (flatten bs) ≡ answer (flatten (bs ++ cs)) =
      at_once reading (flatten bs) (flatten cs) (whole (λ l. Enough (answer l)) e) (whole (λ l. taken (answer l) ≤ length (flatten bs)) h)
      ∙ ap answer (sym (flatten_append bs cs)) in
      says bs (λ n q. e n (sym same ∙ q)) ∙ ap report_of same

  -- out of data is told at the end only: where the whole input is, no burst tells anything
  pub no_report : (n : ℕ) → answer (flatten (bs ++ cs)) ≡ refused 1 n → told (after bs).stage ≡ None
  no_report n o =
      by_enough (answer (flatten bs)) (says_nothing bs)
      (λ e. absurd (e n (sym (stays reading (flatten bs) (flatten cs) e) ∙ ap answer (sym (flatten_append bs cs)) ∙ o)))

-- no burst tells 1
pub never_1 : (bs : List (List ℕ)) (n : ℕ) → told (after bs).stage ≡ Some (Err (record { number = 1; at = n })) → ⊥
never_1 bs n q =
    by_enough (answer (flatten bs)) (λ m o. let z : ◌≡◌ {A = ℕ} 0 1 = cc (says_nothing bs m o) in absurd (omega arith))
    (λ e. by (answer (flatten bs)) e (sym (says bs e) ∙ q))
  where
    by : (o : Outcome EDID) → Enough o → report_of o ≡ Some (Err (record { number = 1; at = n })) → ⊥
    by (got a m) e r = let z : ◌≡◌ {A = ℕ} 0 1 = cc in absurd (omega arith)
    by (refused k m) e r =
        let same : ◌≡◌ {A = Refusal} (record { number = k; at = m }) (record { number = 1; at = n }) = cc in
        e m (ap (λ (f : Refusal). refused f.number m) same)

-- once something is told, no later burst alters it, nor the answer at the end
pub final : (bs cs : List (List ℕ)) → (told (after bs).stage ≡ None → ⊥)
    → (told (after (bs ++ cs)).stage ≡ told (after bs).stage) × (answer (flatten (bs ++ cs)) ≡ answer (flatten bs))
final bs cs h =
    by_enough (answer (flatten bs)) (λ n q. absurd (h (says_nothing bs n q)))
    (λ e.
    let same : answer (flatten (bs ++ cs)) ≡ answer (flatten bs) = ap answer (flatten_append bs cs) ∙ stays reading (flatten bs) (flatten cs) e in
    (says (bs ++ cs) (λ n q. e n (sym same ∙ q)) ∙ ap report_of same ∙ sym (says bs e), same))

-- joined bursts are as long as their parts
longer : (bs xs ys : List (List ℕ)) → bs ≡ xs ++ ys → length (flatten xs) ≤ length (flatten bs)
longer bs xs ys e =
    let all : length (flatten bs) ≡ length (flatten xs) + length (flatten ys) = ap (λ (l : List (List ℕ)). length (flatten l)) e ∙ ap length (flatten_append xs ys) ∙ length-append (flatten xs) (flatten ys) in
    omega arith

-- the burst that brings the last byte that the answer takes
pub reported_then : (bs : List (List ℕ)) (b : List ℕ) (cs : List (List ℕ)) → Enough (answer (flatten (bs ++ (b ∷ cs))))
    → Brings (taken (answer (flatten (bs ++ (b ∷ cs))))) bs b → Reported bs b cs
reported_then bs b cs enough h =
    record {
      before = λ xs ys e.
          let all : bs ++ (b ∷ cs) ≡ xs ++ (ys ++ (b ∷ cs)) = ap (λ (l : List (List ℕ)). l ++ (b ∷ cs)) e ∙ append_assoc xs ys (b ∷ cs) in
          not_earlier xs (ys ++ (b ∷ cs))
          (subst (λ (l : List (List ℕ)). length (flatten xs) < taken (answer (flatten l))) all (omega (arith, h.missing, longer bs xs ys e)));
      then = λ xs ys e.
          let all : bs ++ (b ∷ cs) ≡ bs ++ (b ∷ xs) ++ ys = ap (λ (l : List (List ℕ)). bs ++ (b ∷ l)) e ∙ sym (append_assoc bs (b ∷ xs) ys) in
          let first : bs ++ (b ∷ xs) ≡ bs ++ (b ∷ []) ++ xs = sym (append_assoc bs (b ∷ []) xs) in
          not_later (bs ++ (b ∷ xs)) ys (subst (λ (l : List (List ℕ)). Enough (answer (flatten l))) all enough)
          (subst (λ (l : List (List ℕ)). taken (answer (flatten l)) ≤ length (flatten (bs ++ (b ∷ xs)))) all
          (omega (arith, h.there, longer (bs ++ (b ∷ xs)) (bs ++ (b ∷ [])) xs first)))
          ∙ ap (λ (l : List (List ℕ)). report_of (answer (flatten l))) (sym all);
    }
