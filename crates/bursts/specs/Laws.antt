-- What the proofs of the code use: of a list of 146 bytes, and of a burst.
use Prim.Native.Nat.{ℕ, zero, suc, ◌+◌, ◌-◌, ◌≤◌, ◌<◌, min}
use Rattle.std.specs.Prelude.{cond, ◌≡◌, eqb, ltb, drop, set}
use Rattle.std.proofs.Math.Path.{sym, ap}
use Rattle.std.proofs.Common.{◌∙◌, le_refl, get_or-drop, eq-eqb, ne_eqb, lt-ltb, le-ltb}
use mathlib.Core.List.{List, [], ◌∷◌, ◌++◌}
use Rattle.std.proofs.Math.Nat.{zero-min, min-zero, suc-min-suc}
use native.Mathlib.Omega.{arith}
use Rattle.std.proofs.Math.ListN.{length, get_or, take, length-take, length-set}
use Rattle.std.proofs.Math.Seq.{take-length, take-take, take-set-le, get_or-set_same, get_or-set_other, take-append-add, paste, take-paste, length-paste}
use Rattle.std.proofs.lemmas.List.Edits.{drop-paste}
use Rattle.steps.specs.Steps.{got, refused}
use Rattle.steps.specs.Laws.{picked, picked_not}
use Rattle.crate_end.specs.Ends.{Went, went}
use Rattle.bursts.specs.Bursts.{Stage, amid, known, Standing, held, stage_of, stage, standing, settled, further, grow}

-- ---- lists

take_of_take : (m n : ℕ) (l : List ℕ) → take m (take n l) ≡ take (min m n) l
take_of_take zero n l = rw (zero-min n)
take_of_take (suc m) zero l = rw (min-zero (suc m))
take_of_take (suc m) (suc n) [] = rw (suc-min-suc m n)
take_of_take (suc m) (suc n) (x ∷ l) = rw (suc-min-suc m n) (ap (λ (r : List ℕ). x ∷ r) (take_of_take m n l))

take_min : (l : List ℕ) (n : ℕ) → take (min n (length l)) l ≡ take n l
take_min l n = sym (take_of_take n (length l) l) ∙ ap (take n) (take-length l)

-- two lists that are one from n on
behind : (l m : List ℕ) (n j : ℕ) → n ≤ j → drop n l ≡ drop n m → get_or l j 0 ≡ get_or m j 0
behind l m n j h e =
    let at : n + (j - n) ≡ j = omega arith in
    ap (λ (k : ℕ). get_or l k 0) (sym at) ∙ sym (get_or-drop n l (j - n) 0) ∙ ap (λ (r : List ℕ). get_or r (j - n) 0) e ∙ get_or-drop n m (j - n) 0
    ∙ ap (λ (k : ℕ). get_or m k 0) at

-- the first n elements of s are pasted, whether s is longer or not
pub paste_first : (d : List ℕ) (at : ℕ) (s : List ℕ) (n : ℕ) → paste d at (take n s) n ≡ paste d at s n
paste_first d at s n = ap (λ (l : List ℕ). take at d ++ l ++ drop (at + n) d) (take-take n n s (le_refl n))

-- ---- a state s

pub held_is : (s : List ℕ) (n : ℕ) → n ≡ min (get_or s 142 0) 142 → take n s ≡ held s
unfolding held
held_is s n e = ap (λ (k : ℕ). take k s) e ∙ sym (take_of_take (get_or s 142 0) 142 s)

pub held_most : (s : List ℕ) → length (held s) ≤ 142
unfolding held
held_most s = omega (arith, length-take (get_or s 142 0) (take 142 s), length-take 142 s)

-- with bytes of a burst behind those that came, and the new count
module _ (s burst : List ℕ) (from many : ℕ) (h : length s ≡ 146) (f : from ≡ min (get_or s 142 0) 142) (m : many ≡ min (length burst) (142 - from)) where
  filled : List ℕ
  filled = paste s from burst many

  filled_held : take (from + many) filled ≡ take 142 (held s ++ burst)
  unfolding filled
  filled_held =
      let size : length (take from s) + (142 - from) ≡ 142 = omega (arith, length-take from s) in
      let cut : many ≡ min (142 - from) (length burst) = omega arith in
      take-paste s from burst many (omega arith) (omega arith)
      ∙ ap (λ (r : List ℕ). take from s ++ r) (ap (λ (k : ℕ). take k burst) cut ∙ take_min burst (142 - from))
      ∙ sym (take-append-add (take from s) burst (142 - from))
      ∙ ap (λ (k : ℕ). take k (take from s ++ burst)) size
      ∙ ap (λ (r : List ℕ). take 142 (r ++ burst)) (held_is s from f)

  pub holds_more : held (set (paste s from burst many) 142 (from + many)) ≡ take 142 (held s ++ burst)
  unfolding held filled
  holds_more =
      let size : length filled ≡ 146 = length-paste s from burst many (omega arith) (omega arith) ∙ h in
      ap (λ (n : ℕ). take n (take 142 (set filled 142 (from + many)))) (get_or-set_same filled 142 (from + many) 0 (omega arith))
      ∙ ap (take (from + many)) (take-set-le 142 filled 142 (from + many) (omega arith))
      ∙ take-take (from + many) 142 filled (omega arith) ∙ filled_held

  kept : (j : ℕ) → 142 < j → get_or (set (paste s from burst many) 142 (from + many)) j 0 ≡ get_or s j 0
  kept j l =
      get_or-set_other (paste s from burst many) 142 j (from + many) 0 (λ e. absurd (omega arith))
      ∙ behind (paste s from burst many) s (from + many) j (omega arith) (drop-paste s from burst many (omega arith) (omega arith))

  pub stage_same : stage (set (paste s from burst many) 142 (from + many)) ≡ stage s
  unfolding stage
  stage_same = λ i. stage_of (kept 143 (omega arith) i) (kept 144 (omega arith) i) (kept 145 (omega arith) i)

-- with three bytes behind the count
module _ (s : List ℕ) (sort place number : ℕ) (h : length s ≡ 146) where
  noted : List ℕ
  noted = set (set (set s 143 sort) 144 place) 145 number

  pub noted_held : held (set (set (set s 143 sort) 144 place) 145 number) ≡ held s
  unfolding held noted
  noted_held =
      let count : get_or noted 142 0 ≡ get_or s 142 0 =
      get_or-set_other (set (set s 143 sort) 144 place) 145 142 number 0 (λ e. absurd (omega arith))
      ∙ get_or-set_other (set s 143 sort) 144 142 place 0 (λ e. absurd (omega arith)) ∙ get_or-set_other s 143 142 sort 0 (λ e. absurd (omega arith)) in
      let bytes : take 142 noted ≡ take 142 s =
      take-set-le 142 (set (set s 143 sort) 144 place) 145 number (omega arith) ∙ take-set-le 142 (set s 143 sort) 144 place (omega arith)
      ∙ take-set-le 142 s 143 sort (omega arith) in
      λ i. take (count i) (bytes i)

  pub noted_stage : stage (set (set (set s 143 sort) 144 place) 145 number) ≡ stage_of sort place number
  unfolding stage noted
  noted_stage =
      let first : get_or noted 143 0 ≡ sort =
      get_or-set_other (set (set s 143 sort) 144 place) 145 143 number 0 (λ e. absurd (omega arith))
      ∙ get_or-set_other (set s 143 sort) 144 143 place 0 (λ e. absurd (omega arith)) ∙ get_or-set_same s 143 sort 0 (omega arith) in
      let second : get_or noted 144 0 ≡ place =
      get_or-set_other (set (set s 143 sort) 144 place) 145 144 number 0 (λ e. absurd (omega arith))
      ∙ get_or-set_same (set s 143 sort) 144 place 0 (omega (arith, length-set s 143 sort)) in
      let third : get_or noted 145 0 ≡ number =
      get_or-set_same (set (set s 143 sort) 144 place) 145 number 0 (omega (arith, length-set s 143 sort, length-set (set s 143 sort) 144 place)) in
      λ i. stage_of (first i) (second i) (third i)

-- ---- the stage that three bytes say

pub is_amid : (sort place number : ℕ) → sort < 6 → stage_of sort place number ≡ amid sort place
unfolding stage_of
is_amid sort place number h = picked (ltb sort 6) _ _ (lt-ltb sort 6 h)

pub is_known : (sort place number : ℕ) → 6 ≤ sort → stage_of sort place number ≡ known (cond (eqb sort 6) (got tt place) (refused number place))
unfolding stage_of
is_known sort place number h = picked_not (ltb sort 6) _ _ (le-ltb sort 6 h)

pub is_accepted_lem : (sort place number : ℕ) → sort ≡ 6 → stage_of sort place number ≡ known (got tt place)
is_accepted_lem sort place number e = is_known sort place number (omega arith) ∙ ap known (picked (eqb sort 6) _ _ (eq-eqb sort 6 e))

pub is_refused : (sort place number : ℕ) → 6 ≤ sort → (sort ≡ 6 → ⊥) → stage_of sort place number ≡ known (refused number place)
is_refused sort place number h e = is_known sort place number h ∙ ap known (picked_not (eqb sort 6) _ _ (ne_eqb sort 6 e))

-- ---- a burst: s is the state with it filled in

pub begins : (s : List ℕ) → get_or s 143 0 < 6 → stage s ≡ amid (get_or s 143 0) (get_or s 144 0)
unfolding stage
begins s h = is_amid (get_or s 143 0) (get_or s 144 0) (get_or s 145 0) h

module _ (a : Standing) (burst s : List ℕ) (h : held s ≡ take 142 (a.bytes ++ burst)) (r : stage s ≡ a.stage) where
  -- the end was not known, and t is the state with how far all that came is read
  pub anew : (t : List ℕ) (w : Went) → get_or s 143 0 < 6 → held t ≡ held s → stage t ≡ settled w
      → w ≡ went (5 - get_or s 143 0) (get_or s 143 0) (held s) (get_or s 144 0) → standing t ≡ grow a burst
  anew t w z e f g =
      let all = take 142 (a.bytes ++ burst) in
      let now : stage t ≡ further a.stage all =
      f ∙ ap settled (g ∙ ap (λ (l : List ℕ). went (5 - get_or s 143 0) (get_or s 143 0) l (get_or s 144 0)) h)
      ∙ ap (λ (u : Stage). further u all) (sym (begins s z) ∙ r) in
      λ i. record { bytes = (e ∙ h) i; stage = now i }

  -- it was known
  pub still : 6 ≤ get_or s 143 0 → standing s ≡ grow a burst
  unfolding stage
  still n =
      let all = take 142 (a.bytes ++ burst) in
      let is = is_known (get_or s 143 0) (get_or s 144 0) (get_or s 145 0) n in
      let same : stage s ≡ further a.stage all = is ∙ ap (λ (u : Stage). further u all) (sym is ∙ r) in
      λ i. record { bytes = h i; stage = same i }
