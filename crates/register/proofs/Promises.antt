-- What holds of the steps, over every list of bytes: each reason gives its end and each end has its reason, and a step and the step back give the same bytes.
use Rattle.std.specs.Prelude.{ℕ, ◌^◌, ◌<◌, ◌≡◌, refl, Bool, true, false, ◌||◌, List, ◌↔◌, ◌⊎◌, eqb, leb, length}
use Rattle.std.proofs.Common.{sym, subst, ◌∙◌, inl, inr, eq-or-lt_of_le, arith, eqb-true, leb-true, leb-false, ne_eqb, length-append, take_all, take_at, drop_at}
use Rattle.std.proofs.lemmas.Bool.{eqb-false, lt-leb}
use Rattle.bits.specs.Bytes.{◌!◌, part}
use Rattle.write_leaf.specs.Bytes.{Bytes}
use Rattle.register.specs.Register.{zeros, short, long, panel_of, base_of, Step, Refused, Record, must, all_zero, step_up, step_down}
use Rattle.register.specs.Laws.{zeros_by, same_number, panel_under, part_length}
use Rattle.register.proofs.Layouts.{starts_short, is_long}
use Rattle.register.specs.Promises.{down_with_extension, not_zero, by_test, UpEnd, wrong_length, not_zero_there, accepted, DownEnd, count_above_1, uncounted, extended, all_zero_not}

module _ (panel : ℕ) (base : List ℕ) (p : panel < 2 ^ 32) (b : length base ≡ 128) where
  pub up_of_short : step_up (short panel base) ≡ Record (long panel 0 base (zeros 128))
  up_of_short = rw (b, same_number 4 panel p, take_all 128 base (omega arith)) refl

  pub down_of_long : step_down (long panel 0 base (zeros 128)) ≡ Record (short panel base)
  down_of_long =
      rw (length-append base (zeros 128), b, drop_at base (zeros 128) 128 b, take_at base (zeros 128) 128 b, same_number 4 panel p) refl

up_ends : (s : List ℕ) → Bytes s → UpEnd s (step_up s)
up_ends s b =
    by_test (UpEnd s) (eqb (length s) 136) 15 _ (λ f. wrong_length (eqb-false (length s) 136 f))
    (λ t.
    let n = eqb-true (length s) 136 t in
    by_test (UpEnd s) (all_zero (part s 4 4)) 17 _ (λ f. not_zero_there n (not_zero s 4 4 (omega arith) f))
    (λ z. accepted (panel_of s) (base_of s) (panel_under s b (omega arith)) (part_length s 8 128 (omega arith))
    (sym (take_all 136 s (omega arith)) ∙ starts_short s b (omega arith) z)))

down_ends : (s : List ℕ) → Bytes s → DownEnd s (step_down s)
down_ends s b =
    by_test (DownEnd s) (eqb (length s) 264) 15 _ (λ f. wrong_length (eqb-false (length s) 264 f))
    (λ t.
    let n = eqb-true (length s) 264 t in
    by_test (DownEnd s) (leb (s ! 4) 1) 17 _ (λ f. count_above_1 n (leb-false (s ! 4) 1 f))
    (λ c. by_test (DownEnd s) (all_zero (part s 5 3)) 17 _ (λ f. not_zero_there n (not_zero s 5 3 (omega arith) f))
    (λ z. by_count n (is_long s b n z) (eq-or-lt_of_le (leb-true (s ! 4) 1 c)))))
  where
    by_count : length s ≡ 264 → s ≡ long (panel_of s) (s ! 4) (base_of s) (part s 136 128) → (s ! 4 ≡ 1) ⊎ (s ! 4 < 1)
        → DownEnd s (must (eqb (s ! 4) 1 || all_zero (part s 136 128)) 17 (must (eqb (s ! 4) 0) 16 (Record (short (panel_of s) (base_of s)))))
    by_count n laid (inl one) =
        rw one (extended (panel_of s) (base_of s) (part s 136 128) (panel_under s b (omega arith)) (part_length s 8 128 (omega arith)) (part_length s 136 128 (omega arith)) (rw one at laid))
    by_count n laid (inr none) =
        let zero : s ! 4 ≡ 0 = omega arith in
        rw zero
        (by_test (DownEnd s) (all_zero (part s 136 128)) 17 _ (λ f. uncounted n zero (not_zero s 136 128 (omega arith) f))
        (λ z. accepted (panel_of s) (base_of s) (panel_under s b (omega arith)) (part_length s 8 128 (omega arith))
        (rw (zero, zeros_by (part s 136 128) 128 (part_length s 136 128 (omega arith)) z) at laid)))

up_by : (s : List ℕ) (x : Step) → UpEnd s x → step_up s ≡ x
up_by s x (wrong_length h) = rw (ne_eqb (length s) 136 h) refl
up_by s x (not_zero_there n z) = rw (n, all_zero_not s 4 4 (omega arith) z) refl
up_by s x (accepted panel base p b is) = rw is (up_of_short panel base p b)

either_way : (test : Bool) (number : ℕ) → must test number (Refused number) ≡ Refused number
either_way true number = refl
either_way false number = refl

down_by : (s : List ℕ) (x : Step) → DownEnd s x → step_down s ≡ x
down_by s x (wrong_length h) = rw (ne_eqb (length s) 264 h) refl
down_by s x (count_above_1 n c) = rw (n, lt-leb (s ! 4) 1 c) refl
down_by s x (not_zero_there n z) = rw (n, all_zero_not s 5 3 (omega arith) z) (either_way (leb (s ! 4) 1) 17)
down_by s x (uncounted n c z) = rw (n, c, all_zero_not s 136 128 (omega arith) z) (either_way (all_zero (part s 5 3)) 17)
down_by s x (extended panel base extension p b e is) = rw is (down_with_extension panel base p b extension e)
down_by s x (accepted panel base p b is) = rw is (down_of_long panel base p b)

pub up_exactly : (s : List ℕ) → Bytes s → (x : Step) → (step_up s ≡ x) ↔ UpEnd s x
up_exactly s b x = (λ e. subst (UpEnd s) e (up_ends s b), up_by s x)

pub down_exactly : (s : List ℕ) → Bytes s → (x : Step) → (step_down s ≡ x) ↔ DownEnd s x
down_exactly s b x = (λ e. subst (DownEnd s) e (down_ends s b), down_by s x)

pub up_then_down : (s t : List ℕ) → Bytes s → step_up s ≡ Record t → step_down t ≡ Record s
up_then_down s t b e = back t ((up_exactly s b (Record t)).0 e)
  where
    back : (t : List ℕ) → UpEnd s (Record t) → step_down t ≡ Record s
    back t (accepted panel base p n is) = rw is (down_of_long panel base p n)

pub down_then_up : (s t : List ℕ) → Bytes s → step_down s ≡ Record t → step_up t ≡ Record s
down_then_up s t b e = back t ((down_exactly s b (Record t)).0 e)
  where
    back : (t : List ℕ) → DownEnd s (Record t) → step_up t ≡ Record s
    back t (accepted panel base p n is) = rw is (up_of_short panel base p n)
