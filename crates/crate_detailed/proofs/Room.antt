-- Nothing to believe: what the two axes come to is what `fitted` says, an axis with no room being refusal 6.
use Rattle.std.specs.Prelude.{ℕ, ◌≡◌, refl, Option, Some, None, Result, Ok, Err}
use Rattle.std.specs.Option.{ok_or}
use Rattle.std.proofs.Common.{arith, sym, ap, subst, ◌∙◌}
use Rattle.steps.specs.Steps.{refuse}
use Rattle.steps.specs.Leaves.{outcome, Stands}
use Rattle.steps.specs.Took.{Took, gives}
use Rattle.steps.specs.declared.Cursor.{Cursor}
use Rattle.steps.specs.declared.Refusal.{Refusal}
use Rattle.timing.specs.declared.Across.{Across}
use Rattle.timing.specs.declared.Down.{Down}
use Rattle.crate_detailed.specs.Detailed.{fitted}
use Rattle.crate_detailed.specs.declared.Axes.{Axes}

abbrev six : Cursor → Refusal
six c = record { number = 6; at = c.at }

refuses : {A : Type 0} {c : Cursor} {r : Result A Refusal} → r ≡ Err (six c) → Took (refuse 6) c r c
refuses {c = c} e = record {
  lent = refl;
  answer = ap (λ r. outcome r c.at) e;
  stands = subst (λ r. Stands r c.at) (sym e) refl;
}

-- what `ok_or` makes of the axis that a function gives
told : {A : Type 0} {a b : Option A} {e e' : Result A Refusal} (f : Refusal) → a ≡ b → e ≡ ok_or a f → e ≡ e' → ok_or b f ≡ e'
told f q p e = ap (λ o. ok_or o f) (sym q) ∙ sym p ∙ e

across_out : (h : Option Across) (v : Option Down) {c : Cursor} {f : Refusal} {r : Result Axes Refusal} → ok_or h (six c) ≡ Err f → r ≡ Err f
    → Took (fitted h v) c r c
unfolding fitted
across_out None v e d = refuses cc
across_out (Some h) v e d = let z : ◌≡◌ {A = ℕ} 0 1 = cc in absurd (omega arith)

down_out : (h : Option Across) (v : Option Down) {c : Cursor} {a : Across} {f : Refusal} {r : Result Axes Refusal} → ok_or h (six c) ≡ Ok a
    → ok_or v (six c) ≡ Err f → r ≡ Err f → Took (fitted h v) c r c
unfolding fitted
down_out (Some h) None i e d = refuses cc
down_out (Some h) (Some v) i e d = let z : ◌≡◌ {A = ℕ} 0 1 = cc in absurd (omega arith)
down_out None v i e d = let z : ◌≡◌ {A = ℕ} 0 1 = cc in absurd (omega arith)

both_in : (h : Option Across) (v : Option Down) {c : Cursor} {a : Across} {b : Down} → ok_or h (six c) ≡ Ok a → ok_or v (six c) ≡ Ok b
    → Took (fitted h v) c (Ok (record { across = a; down = b })) c
unfolding fitted
both_in (Some h) (Some v) {a = a} {b = b} i e = let same : ◌≡◌ {A = Axes} (record { across = h; down = v }) (record { across = a; down = b }) = cc in gives (ap Ok (sym same))
both_in (Some h) None i e = let z : ◌≡◌ {A = ℕ} 0 1 = cc in absurd (omega arith)
both_in None v i e = let z : ◌≡◌ {A = ℕ} 0 1 = cc in absurd (omega arith)

pub no_across : {h h' : Option Across} (v : Option Down) {c : Cursor} {x : Result Across Refusal} {f : Refusal} {r : Result Axes Refusal}
    → h ≡ h' → x ≡ ok_or h (six c) → x ≡ Err f → r ≡ Err f → Took (fitted h' v) c r c
no_across v p q e d = across_out _ v (told _ p q e) d

pub no_down : {h h' : Option Across} {v v' : Option Down} {c : Cursor} {x : Result Across Refusal} {y : Result Down Refusal} {a : Across} {f : Refusal}
    {r : Result Axes Refusal} → h ≡ h' → x ≡ ok_or h (six c) → x ≡ Ok a → v ≡ v' → y ≡ ok_or v (six c) → y ≡ Err f → r ≡ Err f → Took (fitted h' v') c r c
no_down p q e p' q' e' d = down_out _ _ (told _ p q e) (told _ p' q' e') d

pub both : {h h' : Option Across} {v v' : Option Down} {c : Cursor} {x : Result Across Refusal} {y : Result Down Refusal} {a : Across} {b : Down}
    → h ≡ h' → x ≡ ok_or h (six c) → x ≡ Ok a → v ≡ v' → y ≡ ok_or v (six c) → y ≡ Ok b
    → Took (fitted h' v') c (Ok (record { across = a; down = b })) c
both p q e p' q' e' = both_in _ _ (told _ p q e) (told _ p' q' e')
