-- What holds of the index to show, whichever the limits and the timings.
use Rattle.std.specs.Prelude.{ℕ, zero, suc, ◌≤◌, ◌≡◌, refl, Bool, true, false, List, [], ◌∷◌, ◌++◌, length, Err, Ok}
use Rattle.std.proofs.Common.{sym, ap, ◌∙◌, arith}
use Rattle.standard_record.specs.declared.DetailedTiming.{DetailedTiming}
use Rattle.picking.specs.Best.{Qualifies, area, At, Best, NoneQualifies, Chooses, Accepts}
use Rattle.picking.specs.Score.{choice, chooses}
use Rattle.picking.specs.declared.Limits.{Limits}
use Rattle.picking.specs.Choice.{Choice}

module _ (l : Limits) (ts : List DetailedTiming) where
  -- the checker says yes of at most one index
  pub one_best : {i j : ℕ} → Best l ts i → Best l ts j → i ≡ j
  one_best {i} {j} a b =
      let same : area b.timing ≡ area a.timing =
      omega (arith, a.most j b.timing b.there b.qualifies, b.most i a.timing a.there a.qualifies) in
      omega (arith, a.first j b.timing b.there b.qualifies same, b.first i a.timing a.there a.qualifies (sym same))

  -- and of the chooser's always
  pub chosen_accepted : (i : ℕ) (r : Bool) → Chooses l ts (Ok i) → Accepts l ts i r → r ≡ true
  chosen_accepted i true c a = refl
  chosen_accepted i false c a = absurd (a c)

  -- the chooser has one answer
  pub one_choice : (c d : Choice) → Chooses l ts c → Chooses l ts d → c ≡ d
  one_choice (Ok i) (Ok j) a b = ap Ok (one_best a b)
  one_choice (Ok i) (Err n) a b = absurd (b.1 i a.timing a.there a.qualifies)
  one_choice (Err n) (Ok j) a b = absurd (a.1 j b.timing b.there b.qualifies)
  one_choice (Err n) (Err m) a b = ap Err (a.0 ∙ sym b.0)

  -- which can be computed
  pub computed : (c : Choice) → Chooses l ts c → c ≡ choice l ts
  computed c h = one_choice c (choice l ts) h (chooses l ts)

  -- 14 exactly where no timing qualifies
  pub refused_exactly : (c : Choice) → Chooses l ts c → (c ≡ Err 14 → NoneQualifies l ts) × (NoneQualifies l ts → c ≡ Err 14)
  refused_exactly c h = (λ e. (rw e at h).1, λ none. one_choice c (Err 14) h (refl, none))

-- what stands at an index stands within the list
pub inside : {A : Type 0} (xs : List A) (i : ℕ) (x : A) → At xs i x → suc i ≤ length xs
inside [] i x h = absurd h
inside (y ∷ ys) zero x h = omega arith
inside (y ∷ ys) (suc i) x h = omega (arith, inside ys i x h)

-- so an index past it is not accepted
pub past_the_list : (l : Limits) (ts : List DetailedTiming) (i : ℕ) (r : Bool) → length ts ≤ i → Accepts l ts i r → r ≡ false
past_the_list l ts i true h a = absurd (omega (arith, inside ts i a.timing a.there))
past_the_list l ts i false h a = refl

-- ---- a timing more that does not qualify changes no pick

-- where the index of a list is after one was put in at place n: what stood there or behind it moves on
abbrev pub moved : ℕ → ℕ → ℕ
moved zero i = suc i
moved (suc n) zero = zero
moved (suc n) (suc i) = suc (moved n i)

abbrev pub moved_pick : ℕ → Choice → Choice
moved_pick n (Ok i) = Ok (moved n i)
moved_pick n (Err k) = Err k

moved_up : (n i j : ℕ) → i ≤ j → moved n i ≤ moved n j
moved_up zero i j h = omega arith
moved_up (suc n) zero j h = omega arith
moved_up (suc n) (suc i) zero h = absurd (omega arith)
moved_up (suc n) (suc i) (suc j) h = omega (arith, moved_up n i j (omega arith))

module _ {A : Type 0} (a : A) (ys : List A) where
  -- what stood at an index stands at the moved one
  pub still_there : (xs : List A) (i : ℕ) (x : A) → At (xs ++ ys) i x → At (xs ++ a ∷ ys) (moved (length xs) i) x
  still_there [] i x h = h
  still_there (y ∷ xs) zero x h = h
  still_there (y ∷ xs) (suc i) x h = still_there xs i x h

  was_there : (xs : List A) (j : ℕ) (x : A) → (a ≡ x → ⊥) → At (xs ++ a ∷ ys) j x
      → (i : ℕ) × ((j ≡ moved (length xs) i) × At (xs ++ ys) i x)
  was_there [] zero x new h = absurd (new h)
  was_there [] (suc j) x new h = (j, (refl, h))
  was_there (y ∷ xs) zero x new h = (0, (refl, h))
  was_there (y ∷ xs) (suc j) x new h = let w = was_there xs j x new h in (suc w.0, (ap suc w.1.0, w.1.1))

-- the same timing is picked, by `still-there`, wherever the other was put in
pub added : (l : Limits) (xs ys : List DetailedTiming) (t : DetailedTiming) → (Qualifies l t → ⊥) → (c : Choice)
    → Chooses l (xs ++ ys) c → Chooses l (xs ++ t ∷ ys) (moved_pick (length xs) c)
added l xs ys t not (Err n) h = (h.0, λ j u k q. let w = was_there t ys xs j u (λ e. not (rw e q)) k in h.1 w.0 u w.1.1 q)
added l xs ys t not (Ok i) h =
    record {
      timing = h.timing;
      there = still_there t ys xs i h.timing h.there;
      qualifies = h.qualifies;
      most = λ j u k q. let w = was_there t ys xs j u (λ e. not (rw e q)) k in h.most w.0 u w.1.1 q;
      first = λ j u k q s.
          let w = was_there t ys xs j u (λ e. not (rw e q)) k in
          rw w.1.0 (moved_up (length xs) i w.0 (h.first w.0 u w.1.1 q s));
    }

-- ---- raising a limit never takes the pick away

-- no limit of m is below that of l
pub record Raised (l m : Limits) : Type 0 where
  pub clock : l.clock ≤ m.clock
  pub across : l.across.0 ≤ m.across.0
  pub down : l.down.0 ≤ m.down.0

still_qualifies : {l m : Limits} {t : DetailedTiming} → Raised l m → Qualifies l t → Qualifies m t
still_qualifies r q =
    record {
      progressive = q.progressive;
      clock = omega (arith, q.clock, r.clock);
      across = omega (arith, q.across, r.across);
      down = omega (arith, q.down, r.down);
      wide = q.wide;
      high = q.high;
    }

-- there is still one, with no fewer active pixels
pub raised : {l m : Limits} (ts : List DetailedTiming) (i : ℕ) → Raised l m → (b : Best l ts i)
    → (j : ℕ) × ((c : Best m ts j) × (area b.timing ≤ area c.timing))
raised {m = m} ts i r b = go (choice m ts) (chooses m ts)
  where
    go : (c : Choice) → Chooses m ts c → (j : ℕ) × ((c : Best m ts j) × (area b.timing ≤ area c.timing))
    go (Ok j) c = (j, (c, c.most i b.timing b.there (still_qualifies r b.qualifies)))
    go (Err n) c = absurd (c.1 i b.timing b.there (still_qualifies r b.qualifies))
