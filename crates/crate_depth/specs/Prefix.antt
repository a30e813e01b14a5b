-- What a prefix of the input already settles: of every program that takes one byte after another.
use Rattle.std.specs.Prelude.{ℕ, ◌+◌, ◌≤◌, ◌<◌, ◌≡◌, refl, List, ◌++◌, length, get_or}
use Rattle.std.proofs.Common.{sym, subst, arith}
use Rattle.std.proofs.lemmas.List.{take-append-le}
use Rattle.std.proofs.Math.Seq.{take-append_seam}
use Rattle.steps.specs.Steps.{Steps, done, refuse, next, here, refused, run}
use Rattle.steps.specs.Answers.{taken, Enough, by_next, later, within, cut_short, same_start}

-- a program that begins with a byte takes one, unless it is out of data
abbrev pub Begins : {A : Type 0} → Steps A → Type 0
Begins (done a) = ⊥
Begins (refuse k) = ⊥
Begins (next f) = Unit
Begins (here f) = ⊥

pub begun : {A : Type 0} (p : Steps A) (s : List ℕ) → Begins p → Enough (run p s 0) → 0 < taken (run p s 0)
begun (done a) s h = absurd h
begun (refuse k) s h = absurd h
begun (next f) s h =
    by_next (λ o. Enough o → 0 < taken o) f s 0 (λ l e. omega (arith, later (f (get_or s 0 0)) s (0 + 1))) (λ l e. absurd (e 0 refl))
begun (here f) s h = absurd h

module _ {A : Type 0} (p : Steps A) (s t : List ℕ) where
  -- an answer other than out of data is that of every longer input
  pub stays : Enough (run p s 0) → run p (s ++ t) 0 ≡ run p s 0
  stays e = same_start p s (s ++ t) e (take-append-le (taken (run p s 0)) s t (within p s 0 (omega arith)))

  -- not before its last byte is there
  pub not_before : length s < taken (run p (s ++ t) 0) → run p s 0 ≡ refused 1 (length s)
  not_before h = subst (λ (l : List ℕ). run p l 0 ≡ refused 1 (length s)) (take-append_seam s t) (cut_short p (s ++ t) (length s) h)

  -- and as soon as it is
  pub at_once : Enough (run p (s ++ t) 0) → taken (run p (s ++ t) 0) ≤ length s → run p s 0 ≡ run p (s ++ t) 0
  at_once e h = same_start p (s ++ t) s e (sym (take-append-le (taken (run p (s ++ t) 0)) s t h))
