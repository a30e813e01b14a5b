-- Laws of a file's records, as the loop meets them. Assumes nothing.
use Prim.Native.Nat.{ℕ, suc, ◌+◌, ◌-◌, ◌≤◌, ◌<◌, min}
use mathlib.Core.Path.{◌≡◌, refl, sym, ap, ap₂, ◌∙◌}
use mathlib.Core.Bool.{Bool, true, false}
use mathlib.Core.Logic.{◌⊎◌, inl, inr}
use mathlib.Core.List.{List, ◌++◌, append_assoc, append-nil}
use native.Mathlib.Omega.{arith}
use borrow.Rule.Slice.PartMut.{mid_of, put_mid, take_put}
use lib.ListN.{length, take, drop, length-append, length-drop, drop_of_length-le}
use lib.Seq.{take_all, take_at, take-length, drop-drop, length-take-le}
use borrow.Author.Tests.{leb-true, leb-false}
use lib.Dec.{leb}
use Rattle.std.specs.Prelude.{Result, Ok, Err}
use Rattle.std.specs.Result.{is_err}
use Rattle.register.specs.declared.StepRefusal.{StepRefusal}
use Rattle.register.specs.declared.StepRefusal.TheVariants.{WrongLength, HasExtension, WrongByte}
use Rattle.register.specs.Refusals.{told}
use Rattle.register.specs.Laws.{part_length}
use Rattle.register.specs.Register.{Refused, Record, into}
use Rattle.register.specs.Promises.{zero_accepts, nonzero_refuses}
use Rattle.register_file.specs.File.{step_of, from_of, to_of, Converted, nothing, before, converted}
use Rattle.register_file.specs.Laws.{numbered, first, no_records, no_bytes, ahead}
use Rattle.register_file.specs.declared.Way.{Way}

-- ---- cutting the record off

take_least : (n : ℕ) (r : List ℕ) → take (min n (length r)) r ≡ take n r
take_least n r = by (leb n (length r)) refl
  where
    by : (t : Bool) → leb n (length r) ≡ t → take (min n (length r)) r ≡ take n r
    by true h = let e : min n (length r) ≡ n = omega (arith, leb-true n (length r) h) in rw e refl
    by false h =
        let l = leb-false n (length r) h in
        let e : min n (length r) ≡ length r = omega arith in
        rw (e, take-length r) (sym (take_all n r (omega arith)))

cut_take : (s : List ℕ) (at n next : ℕ) → at ≤ length s → next ≡ min (at + n) (length s) → mid_of at (next - at) s ≡ take n (drop at s)
cut_take s at n next h e =
    let size = length-drop at s in
    let same : next - at ≡ min n (length (drop at s)) = omega arith in
    ap (λ (k : ℕ). take k (drop at s)) same ∙ take_least n (drop at s)

cut_drop : (s : List ℕ) (at n next : ℕ) → next ≡ min (at + n) (length s) → drop next s ≡ drop n (drop at s)
cut_drop s at n next e = by (leb (at + n) (length s)) refl ∙ sym (drop-drop n at s)
  where
    by : (t : Bool) → leb (at + n) (length s) ≡ t → drop next s ≡ drop (at + n) s
    by true h = let f : next ≡ at + n = omega (arith, leb-true (at + n) (length s) h) in rw f refl
    by false h =
        let l = leb-false (at + n) (length s) h in
        drop_of_length-le s {i = next} (omega arith) ∙ sym (drop_of_length-le s {i = at + n} (omega arith))

-- ---- what is left, behind what is written

module _ (way : Way) (s w : List ℕ) (at i : ℕ) where
  -- no record is left, or the batch is full
  pub ends : (n : ℕ) → (n ≡ 0) ⊎ (length s ≤ at) → ahead w i (converted way n (drop at s)) ≡ record { bytes = w; count = i; number = 0 }
  ends n h = rw (none_left h) (ap₂ (λ (b : List ℕ) (c : ℕ). record { bytes = b; count = c; number = 0 }) (append-nil w) (omega arith))
    where
      none_left : (n ≡ 0) ⊎ (length s ≤ at) → converted way n (drop at s) ≡ nothing
      none_left (inl z) = rw z (no_records way (drop at s))
      none_left (inr z) = no_bytes way n (drop at s) (omega (arith, length-drop at s))

  module _ (m n next : ℕ) (f : m ≡ suc n) (inside : at < length s) (e : next ≡ min (at + from_of way) (length s)) where
    taken : converted way m (drop at s) ≡ before (step_of way (mid_of at (next - at) s)) (converted way n (drop next s))
    taken = rw f (first way n (drop at s) (omega (arith, length-drop at s)))
        ∙ ap₂ (λ (r q : List ℕ). before (step_of way r) (converted way n q)) (sym (cut_take s at (from_of way) next (omega arith) e)) (sym (cut_drop s at (from_of way) next e))

    stops : (number : ℕ) → step_of way (mid_of at (next - at) s) ≡ Refused number → ahead w i (converted way m (drop at s)) ≡ record { bytes = w; count = i; number = number }
    stops number r = rw (taken, r) (ap₂ (λ (b : List ℕ) (c : ℕ). record { bytes = b; count = c; number = number }) (append-nil w) (omega arith))

    goes_on : (t : List ℕ) → step_of way (mid_of at (next - at) s) ≡ Record t
        → ahead (w ++ t) (i + 1) (converted way n (drop next s)) ≡ ahead w i (converted way m (drop at s))
    goes_on t r = rw (taken, r)
        (ap₂ (λ (b : List ℕ) (c : ℕ). record { bytes = b; count = c; number = (converted way n (drop next s)).number }) (append_assoc w t (converted way n (drop next s)).bytes) (omega arith))

-- ---- what a step tells

pub ok_tells : (r : Result Unit StepRefusal) → is_err r ≡ false → told r ≡ 0
ok_tells (Ok u) h = refl
ok_tells (Err WrongLength) h = cc
ok_tells (Err HasExtension) h = cc
ok_tells (Err WrongByte) h = cc

pub err_tells : (r : Result Unit StepRefusal) → is_err r ≡ true → told r ≡ 0 → ⊥
err_tells (Ok u) h = λ e. cc
err_tells (Err WrongLength) h = λ e. absurd (omega arith)
err_tells (Err HasExtension) h = λ e. absurd (omega arith)
err_tells (Err WrongByte) h = λ e. absurd (omega arith)

pub not_err_tells : (r : Result Unit StepRefusal) → ((why : StepRefusal) → r ≡ Err why → ⊥) → told r ≡ 0
not_err_tells (Ok u) h = refl
not_err_tells (Err why) h = absurd (h why refl)

-- ---- a turn of the loop

-- record i, from `at` up to `next`, is stepped into the k bytes of the output from `end` on
module _ (way : Way) (s o t : List ℕ) (at next end to k i number : ℕ) (all : Converted)
    (is-to : to ≡ to_of way) (is-k : k ≡ to) (room : end + to ≤ length o) (inside : at < length s) (is-next : next ≡ min (at + from_of way) (length s)) (few : i < 248)
    (step : (number, t) ≡ into (to_of way) (mid_of end k o) (step_of way (mid_of at (next - at) s)))
    (so_far : ahead (take end o) i (converted way (248 - i) (drop at s)) ≡ all) where
  its_length : length (mid_of end k o) ≡ to_of way
  its_length = part_length o end k (omega arith) ∙ is-k ∙ is-to

  pub turn_stops : (number ≡ 0 → ⊥) → record { bytes = take end (put_mid end k o t); count = i; number = number } ≡ all
  turn_stops h =
      ap (λ (w : List ℕ). record { bytes = w; count = i; number = number }) (take_put end k o t (omega arith))
      ∙ sym (stops way s (take end o) at i (248 - i) (247 - i) next (omega arith) inside is-next number ((nonzero_refuses (to_of way) (mid_of end k o) t _ number h step).1 its_length))
      ∙ so_far

  pub turn_goes_on : number ≡ 0 → length t ≡ k → ahead (take (end + to) (put_mid end k o t)) (i + 1) (converted way (248 - (i + 1)) (drop next s)) ≡ all
  turn_goes_on z n =
      let more : take (end + to) (put_mid end k o t) ≡ take end o ++ t =
      ap (take (end + to)) (sym (append_assoc (take end o) t (drop k (drop end o))))
      ∙ take_at (take end o ++ t) (drop k (drop end o)) (end + to) (omega (arith, length-append (take end o) t, length-take-le end o (omega arith))) in
      rw more
      (goes_on way s (take end o) at i (248 - i) (248 - (i + 1)) next (omega arith) inside is-next t
      (zero_accepts (to_of way) (mid_of end k o) t _ (numbered way (mid_of at (next - at) s)) (rw z at step)).1
      ∙ so_far)
