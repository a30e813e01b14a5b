-- For the proof of `choose`: the greatest score from an index on, turn by turn. For that of `accepts`: an index beside the best.
use Rattle.std.specs.Prelude.{Err, Ok}
use Prim.Native.Nat.{ℕ, zero, suc, ◌+◌, ◌-◌, ◌<◌, ◌≤◌}
use mathlib.Core.Path.{◌≡◌, refl, sym, ◌∙◌}
use mathlib.Core.Bool.{Bool, true, false}
use mathlib.Core.List.{List, [], ◌∷◌, map}
use native.Mathlib.Nat.{zero-add}
use native.Mathlib.Omega.{arith}
use lib.Dec.{eqb}
use lib.ListN.{length, take, drop, get_or}
use borrow.Author.Tests.{le-leb, lt-leb, eq-eqb, ne_eqb, eqb-true, eqb-false}
use Rattle.standard_record.specs.declared.DetailedTiming.{DetailedTiming}
use Rattle.picking.specs.Best.{Best, Chooses, Accepts}
use Rattle.picking.specs.First.{greatest, place}
use Rattle.picking.specs.Score.{score_of, chooses}
use Rattle.picking.specs.Promises.{one_best}
use Rattle.picking.specs.declared.Limits.{Limits}

-- of the elements from k on `most` is the greatest value, and `at` the index of the first that has it
pub record FromOn {A : Type 0} (f : A → ℕ) (xs : List A) (k most at : ℕ) : Type 0 where
  pub greatest_is : most ≡ greatest f (drop k xs)
  pub place_is : at ≡ k + place f (drop k xs)

-- the element at j, with g of it, is the first from j on
next : {A B : Type 0} (g : A → B) (xs : List A) (j n : ℕ) (d : A) → j < n → n ≤ length xs
    → drop j (map g (take n xs)) ≡ g (get_or xs j d) ∷ drop (suc j) (map g (take n xs))
next g [] j n d h l = absurd (omega arith)
next g (x ∷ xs) j zero d h l = absurd (omega arith)
next g (x ∷ xs) zero (suc n) d h l = refl
next g (x ∷ xs) (suc j) (suc n) d h l = next g xs j n d (omega arith) (omega arith)

none_left : {A B : Type 0} (g : A → B) (xs : List A) (n : ℕ) → drop n (map g (take n xs)) ≡ []
none_left g [] zero = refl
none_left g [] (suc n) = refl
none_left g (x ∷ xs) zero = refl
none_left g (x ∷ xs) (suc n) = none_left g xs n

module _ {A B : Type 0} (f : B → ℕ) (g : A → B) (xs : List A) (n : ℕ) where
  pub from_the_end : FromOn f (map g (take n xs)) n 0 n
  from_the_end = record { greatest_is = rw (none_left g xs n); place_is = rw (none_left g xs n) (omega arith) }

  -- a turn looks at the element before those from k on: it takes the place of the best unless it is worse
  module _ (l : n ≤ length xs) (k most at : ℕ) (up : k ≤ n) (above : 0 < k) (h : FromOn f (map g (take n xs)) k most at)
      (d : A) (its : ℕ) (is : its ≡ f (g (get_or xs (k - 1) d))) where
    one : drop (k - 1) (map g (take n xs)) ≡ g (get_or xs (k - 1) d) ∷ drop k (map g (take n xs))
    one = let e : suc (k - 1) ≡ k = omega arith in rw e at (next g xs (k - 1) n d (omega arith) l)

    pub taken : most ≤ its → FromOn f (map g (take n xs)) (k - 1) its (k - 1)
    taken b =
        record {
          greatest_is = rw one (omega (arith, is, h.greatest_is));
          place_is = rw (one, le-leb (greatest f (drop k (map g (take n xs)))) (f (g (get_or xs (k - 1) d))) (omega (arith, is, h.greatest_is))) (omega arith);
        }

    pub passed : its < most → FromOn f (map g (take n xs)) (k - 1) most at
    passed b =
        record {
          greatest_is = rw one (omega (arith, is, h.greatest_is));
          place_is = rw (one, lt-leb (greatest f (drop k (map g (take n xs)))) (f (g (get_or xs (k - 1) d))) (omega (arith, is, h.greatest_is))) (omega (arith, h.place_is));
        }

-- all were looked at
module _ (l : Limits) (ts : List DetailedTiming) (most at : ℕ) (h : FromOn (score_of l) ts 0 most at) where
  pub none_chosen : most ≡ 0 → Chooses l ts (Err 14)
  none_chosen e = rw (eq-eqb (greatest (score_of l) ts) 0 (sym h.greatest_is ∙ e)) at (chooses l ts)

  pub one_chosen : (most ≡ 0 → ⊥) → Chooses l ts (Ok at)
  one_chosen e =
      rw (h.place_is, zero-add) (rw (ne_eqb (greatest (score_of l) ts) 0 (λ z. e (h.greatest_is ∙ z))) at (chooses l ts))

-- ---- for the proof of `accepts`

pub same_index : (l : Limits) (ts : List DetailedTiming) (k i : ℕ) → Best l ts k → Accepts l ts i (eqb k i)
same_index l ts k i b = go (eqb k i) refl
  where
    go : (t : Bool) → eqb k i ≡ t → Accepts l ts i t
    go true e = rw (← eqb-true k i e) b
    go false e = λ other. eqb-false k i e (one_best l ts b other)
