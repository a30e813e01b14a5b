-- Places one behind the other, and the first refusal along them.
use Rattle.std.specs.Prelude.{ℕ, zero, suc, ◌≤◌, ◌<◌, ◌≡◌, refl, Bool, true, false, cond, List, [], ◌∷◌, ◌++◌, ◌⊎◌, length, Ok, Err}
use Rattle.std.proofs.Common.{ap, ◌∙◌, inl, inr, ⊎_elim, arith}
use Rattle.steps.specs.declared.Refusal.{Refusal}
use Rattle.standard_record.specs.Verdict.{Verdict}
use Rattle.standard_verdict.specs.Verdict.{◌then◌}
use Rattle.standard_verdict.specs.Laws.{then_first, then_second}

-- p, the place behind it, and so on while the test holds; n of them at the most
abbrev pub along : (ℕ → Bool) → (ℕ → ℕ) → ℕ → ℕ → List ℕ
along more behind zero p = []
along more behind (suc n) p = cond (more p) (p ∷ along more behind n (behind p)) []

-- the first refusal, or none
abbrev pub first : (ℕ → Verdict) → List ℕ → Verdict
first judge [] = Ok tt
first judge (p ∷ ps) = judge p then first judge ps

-- places from p on, each behind the one before, at each of which the test holds, and q behind the last
pub data Row (more : ℕ → Bool) (behind : ℕ → ℕ) : ℕ → List ℕ → ℕ → Type 0 where
  none : {p : ℕ} → Row more behind p [] p
  step : {p q : ℕ} {ps : List ℕ} → more p ≡ true → Row more behind (behind p) ps q → Row more behind p (p ∷ ps) q

-- ---- laws

pub clash : {A : Type 0} {f : Refusal} → ◌≡◌ {A = Verdict} (Ok tt) (Err f) → A
clash e = let z : ◌≡◌ {A = ℕ} 0 1 = cc in absurd (omega arith)

pub first_append : (judge : ℕ → Verdict) (ps qs : List ℕ) → first judge ps ≡ Ok tt → first judge (ps ++ qs) ≡ first judge qs
first_append judge [] qs e = refl
first_append judge (p ∷ ps) qs e = rw (then_first (judge p) (first judge ps) e) (first_append judge ps qs (then_second (judge p) _ e))

module _ {more : ℕ → Bool} {behind : ℕ → ℕ} where
  pub row_snoc : {p q : ℕ} {ps : List ℕ} → Row more behind p ps q → more q ≡ true → Row more behind p (ps ++ q ∷ []) (behind q)
  row_snoc none e = step e none
  row_snoc (step m r) e = step m (row_snoc r e)

  -- a row comes no further than its places allow of which none is refused
  pub row_below : (judge : ℕ → Verdict) (most : ℕ) → ((p : ℕ) → more p ≡ true → judge p ≡ Ok tt → behind p ≤ most)
      → {p q : ℕ} {ps : List ℕ} → p ≤ most → Row more behind p ps q → first judge ps ≡ Ok tt → q ≤ most
  row_below judge most each h none e = h
  row_below judge most each {p} h (step m r) e = row_below judge most each (each p m (then_first _ _ e)) r (then_second (judge p) _ e)

  -- a row that comes to where the test fails is the whole walk
  pub all_passed : (n : ℕ) {p q : ℕ} {ps : List ℕ} → Row more behind p ps q → length ps ≤ n → more q ≡ false → along more behind n p ≡ ps
  all_passed zero none h e = refl
  all_passed (suc n) none h e = rw e
  all_passed zero (step m r) h e = absurd (omega arith)
  all_passed (suc n) {p} (step m r) h e = rw m (ap (λ l. p ∷ l) (all_passed n r (omega arith) e))

  -- a row of which none is refused comes to a place that is
  pub refused_here : (judge : ℕ → Verdict) {f : Refusal} (n : ℕ) {p q : ℕ} {ps : List ℕ} → Row more behind p ps q → first judge ps ≡ Ok tt
      → length ps < n → more q ≡ true → judge q ≡ Err f → first judge (along more behind n p) ≡ Err f
  refused_here judge zero r fair h m v = absurd (omega arith)
  refused_here judge (suc n) none fair h m v = rw (m, v)
  refused_here judge (suc n) {p} {ps = x ∷ ps} (step m r) fair h k v =
      rw (m, then_first (judge p) (first judge ps) fair) (refused_here judge n r (then_second (judge p) _ fair) (omega arith) k v)

-- where a walk is refused: the places before, of which none is, and the place
pub record Stop (more : ℕ → Bool) (behind : ℕ → ℕ) (judge : ℕ → Verdict) (f : Refusal) (p : ℕ) : Type 0 where
  pub before : List ℕ
  pub at : ℕ
  pub row : Row more behind p before at
  pub fair : first judge before ≡ Ok tt
  pub more_at : more at ≡ true
  pub refused : judge at ≡ Err f

pub stop : {more : ℕ → Bool} {behind : ℕ → ℕ} (judge : ℕ → Verdict) {f : Refusal} {p q : ℕ} {ps : List ℕ} → Row more behind p ps q
    → first judge ps ≡ Err f → Stop more behind judge f p
stop judge none e = clash e
stop {more} {behind} judge {f} {p} {ps = x ∷ ps} (step m r) e = go (judge p) refl e (stop judge r)
  where
    go : (v : Verdict) → judge p ≡ v → (v then first judge ps) ≡ Err f
        → (first judge ps ≡ Err f → Stop more behind judge f (behind p)) → Stop more behind judge f p
    go (Ok tt) j e again =
        let x = again e in
        record { before = p ∷ x.before; at = x.at; row = step m x.row; fair = rw j x.fair; more_at = x.more_at; refused = x.refused }
    go (Err g) j e again = record { before = []; at = p; row = none; fair = refl; more_at = m; refused = j ∙ e }

-- a walk comes to where the test fails, unless it has all the places that it may have
pub walked : (more : ℕ → Bool) (behind : ℕ → ℕ) (n p : ℕ)
    → (q : ℕ) × Row more behind p (along more behind n p) q × ((more q ≡ false) ⊎ (length (along more behind n p) ≡ n))
walked more behind zero p = (p, none, inr refl)
walked more behind (suc n) p = go (more p) refl (walked more behind n (behind p))
  where
    rest : List ℕ
    rest = along more behind n (behind p)

    go : (t : Bool) → more p ≡ t → (q : ℕ) × Row more behind (behind p) rest q × ((more q ≡ false) ⊎ (length rest ≡ n))
        → (q : ℕ) × Row more behind p (cond t (p ∷ rest) []) q × ((more q ≡ false) ⊎ (length (cond t (p ∷ rest) []) ≡ suc n))
    go true m w = (w.0, step m w.1, ⊎_elim inl (λ e. inr (omega arith)) w.2)
    go false m w = (p, none, inl m)
