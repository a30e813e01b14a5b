-- The entry of a record's list at the index to show.
use Rattle.std.specs.Prelude.{ℕ, zero, suc, ◌<◌, min, ◌≡◌, refl, List, [], ◌∷◌, map, length, take, get_or}
use Rattle.std.proofs.Common.{arith, length-take}
use Rattle.std.proofs.lemmas.List.{length-map}
use Rattle.standard_record.specs.Filler.{blank_detailed}
use Rattle.standard_record.specs.declared.HeldTiming.{HeldTiming}
use Rattle.standard_record.specs.Lists.{DetailedTimings}
use Rattle.picking.specs.Best.{At, Best, listed}
use Rattle.picking.specs.Promises.{inside}
use Rattle.picking.specs.declared.Limits.{Limits}

-- the filler past the list
abbrev pub entry : DetailedTimings → ℕ → HeldTiming
entry d i = get_or d.items i blank_detailed

at_first : {A B : Type 0} (g : A → B) (n : ℕ) (xs : List A) (i : ℕ) (x : B) (z : A) → At (map g (take n xs)) i x → g (get_or xs i z) ≡ x
at_first g zero xs i x z h = absurd h
at_first g (suc n) [] i x z h = absurd h
at_first g (suc n) (y ∷ ys) zero x z h = h
at_first g (suc n) (y ∷ ys) (suc i) x z h = at_first g n ys i x z h

any_filler : {A : Type 0} (xs : List A) (i : ℕ) (y z : A) → i < length xs → get_or xs i y ≡ get_or xs i z
any_filler [] i y z h = absurd (omega arith)
any_filler (x ∷ xs) zero y z h = refl
any_filler (x ∷ xs) (suc i) y z h = any_filler xs i y z (omega arith)

module _ (l : Limits) (d : DetailedTimings) (i : ℕ) (b : Best l (listed d) i) where
  -- its timing is the best
  pub its_timing : (entry d i).timing ≡ b.timing
  its_timing = at_first (λ h. h.timing) (min d.len 4) d.items i b.timing blank_detailed b.there

  -- it is within the list and its array
  within : (i < 4) × (i < length d.items)
  within =
      let m = take (min d.len 4) d.items in
      let h = inside (listed d) i b.timing b.there in
      let k = length-map m (λ h. h.timing) in
      let n = length-take (min d.len 4) d.items in
      (omega arith, omega arith)

  pub below_four : i < 4
  below_four = within.0

  -- so the code reads it, whatever would stand past the array
  pub entry_read : (z : HeldTiming) → get_or d.items i z ≡ entry d i
  entry_read z = any_filler d.items i z blank_detailed within.1
