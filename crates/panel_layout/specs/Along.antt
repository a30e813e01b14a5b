-- A run of lines, one after the other: how far it goes; and what the places come to.
use Rattle.std.specs.Prelude.{ℕ, zero, suc, ◌+◌, ◌-◌, ◌<◌, ◌≤◌, Bool, true, false, cond, List, [], ◌≡◌, refl, leb, length, get_or, Result, Ok, Err}
use Rattle.std.specs.List.{prefix_len, range_with_len}
use Rattle.std.specs.Result.{is_ok}
use mathlib.Core.Bool.{true≢false}
use Rattle.std.proofs.Common.{sym, ap, arith}
use borrow.Author.Tests.{eq-eqb, ne_eqb, le-leb, lt-leb, lt-ltb, le-ltb, leb-true, leb-false}
use Rattle.panel_forms.specs.Forms.{is_line}
use Rattle.panel_layout.specs.Layout.{run_by, heads, places_of, wrong_at, layout_by, layout_of}
use Rattle.panel_layout.specs.declared.Places.{Places}

-- nothing where a line is due, or else its place
abbrev pub checked : Bool → ℕ → Result (Unit {0}) ℕ
checked true k = Ok tt
checked false k = Err k

-- the line at k, by the kind that is due there
abbrev pub due : ℕ → List (List ℕ) → ℕ → Result (Unit {0}) ℕ
due kind ls k = checked (is_line kind (get_or ls k [])) k

-- the first seven
abbrev pub heads_due : List (List ℕ) → Result (Unit {0}) ℕ
heads_due ls = checked (leb 7 (heads 7 ls 0)) (heads 7 ls 0)

good : (t : Bool) (k : ℕ) → checked t k ≡ Ok tt → t ≡ true
good true k e = refl
good false k e = absurd (true≢false (ap is_ok (sym e)))

bad : (t : Bool) (k j : ℕ) → checked t k ≡ Err j → (t ≡ false) × (j ≡ k)
bad true k j e = absurd (true≢false (ap is_ok e))
bad false k j e = (refl, ap (λ (r : Result (Unit {0}) ℕ). elim r [ Ok u ↦ k | Err i ↦ i ]) (sym e))

module _ (kind : ℕ) (ls : List (List ℕ)) (k : ℕ) where
  pub is_due : due kind ls k ≡ Ok tt → is_line kind (get_or ls k []) ≡ true
  is_due = good (is_line kind (get_or ls k [])) k

  pub not_due : (j : ℕ) → due kind ls k ≡ Err j → (is_line kind (get_or ls k []) ≡ false) × (j ≡ k)
  not_due = bad (is_line kind (get_or ls k [])) k

module _ (ls : List (List ℕ)) where
  pub heads_are : heads_due ls ≡ Ok tt → 7 ≤ heads 7 ls 0
  heads_are e = leb-true 7 (heads 7 ls 0) (good (leb 7 (heads 7 ls 0)) (heads 7 ls 0) e)

  pub heads_not : (j : ℕ) → heads_due ls ≡ Err j → (j < 7) × (heads 7 ls 0 ≡ j)
  heads_not j e =
      let b = bad (leb 7 (heads 7 ls 0)) (heads 7 ls 0) j e in
      let l = leb-false 7 (heads 7 ls 0) b.0 in
      (omega (arith, l, b.1), sym b.1)

module _ (test : ℕ → List ℕ → Bool) where
  -- a run is a prefix of the places
  pub run_is : (n : ℕ) (ls : List (List ℕ)) (k : ℕ) → prefix_len (λ i. test i (get_or ls i [])) (range_with_len k n) ≡ run_by test n ls k
  unfolding run_by
  run_is zero ls k = refl
  run_is (suc n) ls k = ap (λ m. cond (test k (get_or ls k [])) m 0) (omega (arith, run_is n ls (k + 1)))

  pub run_few : (n : ℕ) (ls : List (List ℕ)) (k : ℕ) → run_by test n ls k ≤ n
  unfolding run_by
  run_few zero ls k = omega arith
  run_few (suc n) ls k = go (test k (get_or ls k [])) (run_few n ls (k + 1))
    where
      go : (t : Bool) → run_by test n ls (k + 1) ≤ n → cond t (suc (run_by test n ls (k + 1))) 0 ≤ suc n
      go true h = omega arith
      go false h = omega arith

  -- the first k of n lines have passed
  abbrev pub Passed : List (List ℕ) → ℕ → ℕ → Type 0
  Passed ls n k = run_by test n ls 0 ≡ k + run_by test (n - k) ls k

  module _ (ls : List (List ℕ)) (n k : ℕ) (p : Passed ls n k) (h : k < n) where
    pub one_more : test k (get_or ls k []) ≡ true → Passed ls n (k + 1)
    unfolding run_by
    one_more t = let e : n - k ≡ suc (n - (k + 1)) = omega arith in omega (arith, rw (e, t) at p)

    pub stopped : test k (get_or ls k []) ≡ false → run_by test n ls 0 ≡ k
    unfolding run_by
    stopped t = let e : n - k ≡ suc (n - (k + 1)) = omega arith in omega (arith, rw (e, t) at p)

-- ---- the layout

module _ (ls : List (List ℕ)) (p : Places) (n : ℕ) (is : n ≡ wrong_at ls p) where
  pub has_all : n ≡ p.extensions + 1 → length ls ≤ p.extensions + 1 → Ok p ≡ layout_by ls p
  unfolding layout_by
  has_all e h = rw (← is, eq-eqb n (p.extensions + 1) e, le-leb (length ls) (p.extensions + 1) h)

  pub line_too_many : n ≡ p.extensions + 1 → p.extensions + 1 < length ls → Err n ≡ layout_by ls p
  unfolding layout_by
  line_too_many e h = rw (← is, eq-eqb n (p.extensions + 1) e, lt-leb (length ls) (p.extensions + 1) h)

  pub line_wrong : (n ≡ p.extensions + 1 → ⊥) → Err n ≡ layout_by ls p
  unfolding layout_by
  line_wrong e = rw (← is, ne_eqb n (p.extensions + 1) e)

module _ (ls : List (List ℕ)) where
  pub places_grow : let p = places_of ls in (7 ≤ p.established) × (p.established < p.extensions)
  unfolding places_of
  places_grow = (omega arith, omega arith)

  abbrev p : Places
  p = places_of ls

  pub head_wrong : (k : ℕ) → heads 7 ls 0 ≡ k → k < 7 → Err k ≡ layout_of ls
  unfolding layout_of wrong_at
  head_wrong k e h = line_wrong ls p k (rw (e, lt-ltb k 7 h)) (λ z. omega (arith, places_grow))

  module _ (all : 7 ≤ heads 7 ls 0) where
    pub established_wrong : is_line 8 (get_or ls p.established []) ≡ false → Err p.established ≡ layout_of ls
    unfolding layout_of wrong_at
    established_wrong e = line_wrong ls p p.established (rw (le-ltb (heads 7 ls 0) 7 all, e)) (λ z. omega (arith, places_grow))

    module _ (there : is_line 8 (get_or ls p.established []) ≡ true) where
      pub extensions_wrong : is_line 12 (get_or ls p.extensions []) ≡ false → Err p.extensions ≡ layout_of ls
      unfolding layout_of wrong_at
      extensions_wrong e = line_wrong ls p p.extensions (rw (le-ltb (heads 7 ls 0) 7 all, there, e)) (λ z. omega arith)

      module _ (last : is_line 12 (get_or ls p.extensions []) ≡ true) where
        none_wrong : p.extensions + 1 ≡ wrong_at ls p
        unfolding wrong_at
        none_wrong = rw (le-ltb (heads 7 ls 0) 7 all, there, last)

        pub too_many : p.extensions + 1 < length ls → Err (p.extensions + 1) ≡ layout_of ls
        unfolding layout_of
        too_many = line_too_many ls p (p.extensions + 1) none_wrong refl

        pub all_there : length ls ≤ p.extensions + 1 → Ok p ≡ layout_of ls
        unfolding layout_of
        all_there = has_all ls p (p.extensions + 1) none_wrong refl
