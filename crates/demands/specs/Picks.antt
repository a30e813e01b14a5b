-- What a C program learns from the number that `edid_pick` answers, whatever the block, the limits and the numbers lent.
use Rattle.std.specs.Prelude.{ℕ, ◌<◌, ◌≤◌, ◌≡◌, refl, List, [], ◌∷◌, ◌++◌, ◌↔◌, length, drop, replicate, Ok, Err}
use Rattle.std.proofs.Common.{ap, ◌∙◌, arith}
use Rattle.steps.specs.declared.Refusal.{Refusal}
use Rattle.timing.specs.Axis.{pixels, lines}
use Rattle.standard_reading.specs.Block.{standard_of}
use Rattle.picking.specs.Best.{Best, NoneQualifies}
use Rattle.picking.specs.declared.Limits.{Limits}
use Rattle.timing_numbers.specs.Numbers.{numbers_of}
use Rattle.exports.specs.Pick.{pick_of}
use Rattle.exports.specs.Picked.{timings_in, Picked, too_few, unread, none, best, picked_exactly}
use Rattle.demands.specs.Panels.{showing, specimen_shows}
use Rattle.demands.specs.Standard.{refusal_2_to_9}

module _ (l : Limits) (s lent : List ℕ) where
  abbrev Meant : ℕ × List ℕ → Type 0
  Meant a = Picked l (standard_of s) lent a

  meant : Meant (pick_of l (standard_of s) lent)
  meant = (picked_exactly l (standard_of s) lent (pick_of l (standard_of s) lent)).0 refl

  abbrev number : ℕ
  number = (pick_of l (standard_of s) lent).0

  abbrev after : List ℕ
  after = (pick_of l (standard_of s) lent).1

  -- 0: the numbers of the best timing were written, and those behind them kept
  pub zero_picks : number ≡ 0 → (i : ℕ) × ((b : Best l (timings_in (standard_of s)) i) × (after ≡ numbers_of b.timing ++ drop 14 lent))
  zero_picks = by (pick_of l (standard_of s) lent) meant
    where
      by : (a : ℕ × List ℕ) → Meant a → a.0 ≡ 0 → (i : ℕ) × ((b : Best l (timings_in (standard_of s)) i) × (a.1 ≡ numbers_of b.timing ++ drop 14 lent))
      by a (too_few h) z = absurd (omega (arith, z))
      by a (unread f h e) z = absurd (omega (arith, z, refusal_2_to_9 s f e))
      by a (none h e n) z = absurd (omega (arith, z))
      by a (best i b h e) z = (i, (b, refl))

  -- and it is 0 wherever there is a best
  pub best_is_zero : (i : ℕ) → Best l (timings_in (standard_of s)) i → 14 ≤ length lent → (standard_of s).end ≡ Ok tt → number ≡ 0
  best_is_zero i b h e = ap (λ a. a.0) ((picked_exactly l (standard_of s) lent (0, numbers_of b.timing ++ drop 14 lent)).1 (best i b h e))

  -- any other number: all were kept
  pub nonzero_keeps : (number ≡ 0 → ⊥) → after ≡ lent
  nonzero_keeps = by (pick_of l (standard_of s) lent) meant
    where
      by : (a : ℕ × List ℕ) → Meant a → (a.0 ≡ 0 → ⊥) → a.1 ≡ lent
      by a (too_few h) z = refl
      by a (unread f h e) z = refl
      by a (none h e n) z = refl
      by a (best i b h e) z = absurd (z refl)

  -- 14: the block is accepted, and no timing of it qualifies
  pub fourteen_exactly : number ≡ 14 ↔ ((14 ≤ length lent) × ((standard_of s).end ≡ Ok tt) × NoneQualifies l (timings_in (standard_of s)))
  fourteen_exactly = (
    by (pick_of l (standard_of s) lent) meant,
    λ h. ap (λ a. a.0) ((picked_exactly l (standard_of s) lent (14, lent)).1 (none h.0 h.1 h.2)),
  )
    where
      by : (a : ℕ × List ℕ) → Meant a → a.0 ≡ 14 → (14 ≤ length lent) × ((standard_of s).end ≡ Ok tt) × NoneQualifies l (timings_in (standard_of s))
      by a (too_few h) z = absurd (omega (arith, z))
      by a (unread f h e) z = absurd (omega (arith, z, refusal_2_to_9 s f e))
      by a (none h e n) z = (h, e, n)
      by a (best i b h e) z = absurd (omega (arith, z))

  -- 10: fewer than fourteen were lent
  pub ten_exactly : number ≡ 10 ↔ length lent < 14
  ten_exactly =
      (by (pick_of l (standard_of s) lent) meant, λ h. ap (λ a. a.0) ((picked_exactly l (standard_of s) lent (10, lent)).1 (too_few h)))
    where
      by : (a : ℕ × List ℕ) → Meant a → a.0 ≡ 10 → length lent < 14
      by a (too_few h) z = h
      by a (unread f h e) z = absurd (omega (arith, z, refusal_2_to_9 s f e))
      by a (none h e n) z = absurd (omega (arith, z))
      by a (best i b h e) z = absurd (omega (arith, z))

  -- 2 to 9: the reading's refusal
  pub two_to_nine_exactly : (n : ℕ) → 2 ≤ n → n ≤ 9
      → number ≡ n ↔ ((14 ≤ length lent) × ((f : Refusal) × (((standard_of s).end ≡ Err f) × (f.number ≡ n))))
  two_to_nine_exactly n low high = (
    by (pick_of l (standard_of s) lent) meant,
    λ h. ap (λ a. a.0) ((picked_exactly l (standard_of s) lent (h.1.0.number, lent)).1 (unread h.1.0 h.0 h.1.1.0)) ∙ h.1.1.1,
  )
    where
      by : (a : ℕ × List ℕ) → Meant a → a.0 ≡ n → (14 ≤ length lent) × ((f : Refusal) × (((standard_of s).end ≡ Err f) × (f.number ≡ n)))
      by a (too_few h) z = absurd (omega (arith, z))
      by a (unread f h e) z = (h, (f, (e, z)))
      by a (none h e m) z = absurd (omega (arith, z))
      by a (best i b h e) z = absurd (omega (arith, z))

-- worked: the specimen's record, of which its only timing equals each limit, and fifteen numbers lent
specimen_picked : pick_of (record { clock = 40000000; across = pixels 800; down = lines 600 }) (specimen_shows 800) (replicate 15 7)
    ≡ (0, 40000000 ∷ 800 ∷ 600 ∷ 40 ∷ 1 ∷ 128 ∷ 4 ∷ 88 ∷ 23 ∷ 0 ∷ 0 ∷ 3 ∷ 1 ∷ 1 ∷ 7 ∷ [])
unfolding showing specimen_shows
specimen_picked = refl
