-- What an answer of `edid_pick` means: four cases, in the words of the order.
use Rattle.std.specs.Prelude.{ℕ, ◌<◌, ◌≤◌, ◌≡◌, refl, Bool, true, false, cond, List, ◌++◌, ◌↔◌, ltb, length, drop, Ok, Err}
use Rattle.std.proofs.Common.{subst, lt-ltb, le-ltb, ltb-true, ltb-false}
use Rattle.steps.specs.declared.Refusal.{Refusal}
use Rattle.standard_record.specs.declared.DetailedTiming.{DetailedTiming}
use Rattle.standard_record.specs.Verdict.{Verdict}
use Rattle.standard_record.specs.declared.StandardReading.{StandardReading}
use Rattle.picking.specs.Best.{Best, NoneQualifies, Chooses, listed}
use Rattle.picking.specs.Score.{choice, chooses}
use Rattle.picking.specs.Promises.{computed}
use Rattle.picking.specs.Entry.{its_timing}
use Rattle.picking.specs.declared.Limits.{Limits}
use Rattle.picking.specs.Choice.{Choice}
use Rattle.timing_numbers.specs.Numbers.{numbers_of}
use Rattle.exports.specs.Pick.{shown, judged, pick_of}

abbrev pub timings_in : StandardReading → List DetailedTiming
timings_in r = listed r.edid.timings.detailed

pub data Picked (l : Limits) (r : StandardReading) (lent : List ℕ) : ℕ × List ℕ → Type 0 where
  too_few : length lent < 14 → Picked l r lent (10, lent)
  unread : (f : Refusal) → 14 ≤ length lent → r.end ≡ Err f → Picked l r lent (f.number, lent)
  none : 14 ≤ length lent → r.end ≡ Ok tt → NoneQualifies l (timings_in r) → Picked l r lent (14, lent)
  best : (i : ℕ) (b : Best l (timings_in r) i) → 14 ≤ length lent → r.end ≡ Ok tt
      → Picked l r lent (0, numbers_of b.timing ++ drop 14 lent)

module _ (l : Limits) (r : StandardReading) (lent : List ℕ) where
  by_choice : 14 ≤ length lent → r.end ≡ Ok tt → (c : Choice) → Chooses l (timings_in r) c
      → Picked l r lent (shown r.edid.timings.detailed lent c)
  by_choice h e (Ok i) b = rw (its_timing l r.edid.timings.detailed i b) (best i b h e)
  by_choice h e (Err n) c = rw c.0 (none h e c.1)

  abbrev answer : Verdict → ℕ × List ℕ
  answer v = judged v lent (shown r.edid.timings.detailed lent (choice l (timings_in r)))

  by_verdict : 14 ≤ length lent → (v : Verdict) → r.end ≡ v → Picked l r lent (answer v)
  by_verdict h (Ok tt) e = by_choice h e (choice l (timings_in r)) (chooses l (timings_in r))
  by_verdict h (Err f) e = unread f h e

  picked : Picked l r lent (pick_of l r lent)
  picked = go (ltb (length lent) 14) refl
    where
      go : (t : Bool) → ltb (length lent) 14 ≡ t → Picked l r lent (cond t (10, lent) (answer r.end))
      go true e = too_few (ltb-true (length lent) 14 e)
      go false e = by_verdict (ltb-false (length lent) 14 e) r.end refl

  picked_by : (a : ℕ × List ℕ) → Picked l r lent a → pick_of l r lent ≡ a
  picked_by a (too_few h) = rw (lt-ltb (length lent) 14 h) refl
  picked_by a (unread f h e) = rw (le-ltb (length lent) 14 h, e) refl
  picked_by a (none h e n) = rw (le-ltb (length lent) 14 h, e, ← computed l (timings_in r) (Err 14) (refl, n)) refl
  picked_by a (best i b h e) =
      rw (le-ltb (length lent) 14 h, e, ← computed l (timings_in r) (Ok i) b, its_timing l r.edid.timings.detailed i b) refl

  pub picked_exactly : (a : ℕ × List ℕ) → (pick_of l r lent ≡ a) ↔ Picked l r lent a
  picked_exactly a = (λ e. subst (Picked l r lent) e picked, picked_by a)
