-- How many bytes a program can want, whatever they are and however it ends: the refusals are counted too.
use Rattle.std.specs.Prelude.{ℕ, zero, suc, ◌+◌, ◌≤◌, ◌<◌, ◌≡◌, refl, Bool, true, false, cond, List, ltb, length, get_or, take}
use Rattle.std.proofs.Common.{sym, ◌∙◌, ap, arith, length-take, get_or-take, ltb-true, ltb-false}
use Rattle.steps.specs.Steps.{Steps, done, refuse, next, here, ◌>>=◌, ensure, run}
use Rattle.steps.specs.Laws.{run_next, run_end}
use Rattle.crate_end.specs.Ends.{bare}

-- n bytes, then k; n times d bytes, then k. Sums, by recursion on the first: so they compute where k is not known
infixr 25 ◌then◌
abbrev pub ◌then◌ : ℕ → ℕ → ℕ
zero then k = k
suc n then k = suc (n then k)

abbrev pub each : ℕ → ℕ → ℕ → ℕ
each zero d k = k
each (suc n) d k = d then each n d k

pub then_is : (n k : ℕ) → n then k ≡ n + k
then_is zero k = omega arith
then_is (suc n) k = let e = then_is n k in omega arith

-- there is room for p in n bytes: it never wants more, and where it gives a value a, w a of the n are left
abbrev pub Room : {A : Type 0} → (A → ℕ) → ℕ → Steps A → Type 0
Room w n (done a) = w a ≤ n
Room w n (refuse k) = Unit
Room w zero (next f) = ⊥
Room w (suc n) (next f) = (b : ℕ) → Room w n (f b)
Room w n (here f) = (k : ℕ) → Room w n (f k)

-- ---- its laws

pub room_more : {A : Type 0} (p : Steps A) (w : A → ℕ) (m n : ℕ) → m ≤ n → Room w m p → Room w n p
room_more (done a) w m n l r = omega arith
room_more (refuse k) w m n l r = tt
room_more (next f) w zero n l r = absurd r
room_more (next f) w (suc m) zero l r = absurd (omega arith)
room_more (next f) w (suc m) (suc n) l r = λ b. room_more (f b) w m n (omega arith) (r b)
room_more (here f) w m n l r = λ k. room_more (f k) w m n l (r k)

-- one program after the other: what the first leaves is room for the second
pub room_then : {A B : Type 0} (p : Steps A) (g : A → Steps B) (w : A → ℕ) (v : B → ℕ) (n : ℕ)
    → Room w n p → ((a : A) → Room v (w a) (g a)) → Room v n (p >>= g)
room_then (done a) g w v n r h = room_more (g a) v (w a) n r (h a)
room_then (refuse k) g w v n r h = tt
room_then (next f) g w v zero r h = absurd r
room_then (next f) g w v (suc n) r h = λ b. room_then (f b) g w v n (r b) h
room_then (here f) g w v n r h = λ k. room_then (f k) g w v n (r k) h

pub room_cond : {A : Type 0} (t : Bool) (p q : Steps A) (w : A → ℕ) (n : ℕ) → Room w n p → Room w n q → Room w n (cond t p q)
room_cond true p q w n r h = r
room_cond false p q w n r h = h

pub room_ensured : {B : Type 0} (t : Bool) (k : ℕ) (g : Unit → Steps B) (v : B → ℕ) (n : ℕ) → Room v n (g tt)
    → Room v n (ensure t k >>= g)
room_ensured true k g v n r = r
room_ensured false k g v n r = tt

-- a program wants what it wants without its value
pub room_bare : {A : Type 0} (p : Steps A) (n : ℕ) → Room (λ _. 0) n (bare p) → Room (λ _. 0) n p
room_bare (done a) n r = r
room_bare (refuse k) n r = tt
room_bare (next f) zero r = absurd r
room_bare (next f) (suc n) r = λ b. room_bare (f b) n (r b)
room_bare (here f) n r = λ k. room_bare (f k) n (r k)

-- ---- what it is for: the bytes past the room have no part in any answer, out of data included

module _ {A : Type 0} (f : ℕ → Steps A) (s : List ℕ) (at k : ℕ) (h : at < k) where
  first_next : run (f (get_or s at 0)) (take k s) (at + 1) ≡ run (f (get_or s at 0)) s (at + 1) → run (next f) (take k s) at ≡ run (next f) s at
  first_next ih = go (ltb at (length s)) refl
    where
      go : (t : Bool) → ltb at (length s) ≡ t → run (next f) (take k s) at ≡ run (next f) s at
      go true e =
          run_next f (take k s) at (omega (arith, length-take k s, ltb-true at (length s) e))
          ∙ ap (λ (b : ℕ). run (f b) (take k s) (at + 1)) (get_or-take k s at 0 h) ∙ ih ∙ sym (run_next f s at (ltb-true _ _ e))
      go false e =
          run_end f (take k s) at (omega (arith, length-take k s, ltb-false at (length s) e)) ∙ sym (run_end f s at (ltb-false _ _ e))

pub first_only : {A : Type 0} (p : Steps A) (w : A → ℕ) (n : ℕ) → Room w n p → (s : List ℕ) (at k : ℕ) → at + n ≤ k
    → run p (take k s) at ≡ run p s at
first_only (done a) w n r s at k h = refl
first_only (refuse j) w n r s at k h = refl
first_only (next f) w zero r s at k h = absurd r
first_only (next f) w (suc n) r s at k h =
    first_next f s at k (omega arith) (first_only (f (get_or s at 0)) w n (r (get_or s at 0)) s (at + 1) k (omega arith))
first_only (here f) w n r s at k h = first_only (f at) w n (r at) s at k h
