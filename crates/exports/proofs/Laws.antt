-- For the proof of `show`: the answer is the chooser's; for that of `edid_pick`: what is told of the timings alone tells the reading's verdict.
use Rattle.std.specs.Prelude.{Result, Ok, Err}
use Prim.Native.Nat.{ℕ}
use mathlib.Core.Path.{◌≡◌, refl, ap, ◌∙◌}
use native.Mathlib.Omega.{arith}
use mathlib.Core.List.{List, ◌++◌}
use lib.ListN.{drop, get_or}
use Rattle.steps.specs.declared.Refusal.{Refusal}
use Rattle.steps.specs.Took.{with_value}
use Rattle.standard_record.specs.declared.HeldTiming.{HeldTiming}
use Rattle.standard_record.specs.Lists.{DetailedTimings}
use Rattle.picking.specs.Best.{Best, Chooses, listed}
use Rattle.picking.specs.Score.{choice}
use Rattle.picking.specs.Promises.{computed}
use Rattle.picking.specs.Entry.{entry_read}
use Rattle.picking.specs.declared.Limits.{Limits}
use Rattle.picking.specs.Choice.{Choice}
use Rattle.timing_numbers.specs.Numbers.{numbers_of}
use Rattle.exports.specs.Pick.{shown}

module _ (l : Limits) (d : DetailedTimings) (lent : List ℕ) where
  pub told : (c : Choice) → Chooses l (listed d) c → shown d lent c ≡ shown d lent (choice l (listed d))
  told c h = ap (shown d lent) (computed l (listed d) c h)

  pub its_numbers : (i : ℕ) (z : HeldTiming) → Best l (listed d) i
      → (0, numbers_of (get_or d.items i z).timing ++ drop 14 lent) ≡ shown d lent (choice l (listed d))
  its_numbers i z b = ap (λ h. (0, numbers_of h.timing ++ drop 14 lent)) (entry_read l d i b z) ∙ told (Ok i) b

pub told_refusal : (a : DetailedTimings) (e : Result Unit Refusal) {f : Refusal} → with_value a e ≡ Err f → e ≡ Err f
told_refusal a (Ok tt) h = let z : ◌≡◌ {A = ℕ} 0 1 = cc in absurd (omega arith)
told_refusal a (Err g) {f} h = let same : g ≡ f = cc in ap Err same

pub told_list : (a : DetailedTimings) (e : Result Unit Refusal) {b : DetailedTimings} → with_value a e ≡ Ok b → (e ≡ Ok tt) × (a ≡ b)
told_list a (Ok tt) {b} h = let same : a ≡ b = cc in (refl, same)
told_list a (Err g) h = let z : ◌≡◌ {A = ℕ} 0 1 = cc in absurd (omega arith)
