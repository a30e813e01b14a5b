-- A piece that is whole stays whole when bytes are added: so the reading may go on from where it came to.
use Rattle.std.specs.Prelude.{ℕ, zero, suc, ◌+◌, ◌-◌, ◌<◌, ◌≤◌, ◌≡◌, refl, List, ◌++◌, length, get_or, Result}
use Rattle.std.proofs.Common.{sym, ◌∙◌, ap, add-one, arith, length-append}
use Rattle.std.proofs.Math.ListN.{get_or-append}
use Rattle.steps.specs.Steps.{Steps, done, refuse, next, here, Outcome, got, refused, run}
use Rattle.steps.specs.Laws.{run_next, more, zero_left}
use Rattle.steps.specs.Leaves.{outcome}
use Rattle.steps.specs.Took.{Took}
use Rattle.steps.specs.declared.Cursor.{Cursor}
use Rattle.steps.specs.declared.Refusal.{Refusal}
use Rattle.steps.specs.Answers.{taken, by_next}
use Rattle.crate_text.specs.Text.{skip}
use Rattle.crate_end.specs.Ends.{piece, Went, onward, went}

-- a value is the same on every longer list
got_more : {A : Type 0} (p : Steps A) (s t : List ℕ) (at : ℕ) (a : A) (n : ℕ) → run p s at ≡ got a n → run p (s ++ t) at ≡ got a n
got_more (done b) s t at a n e = e
got_more (refuse k) s t at a n e = e
got_more {A} (next f) s t at a n e =
    by_next (λ o. o ≡ got a n → run (next f) (s ++ t) at ≡ got a n) f s at
    (λ h q.
    run_next f (s ++ t) at (omega (arith, length-append s t)) ∙ ap (λ (b : ℕ). run (f b) (s ++ t) (at + 1)) (get_or-append s t 0 at h)
    ∙ got_more (f (get_or s at 0)) s t (at + 1) a n q)
    (λ h q. let z : ◌≡◌ {A = ℕ} 0 1 = cc in absurd (omega arith)) e
got_more (here f) s t at a n e = got_more (f at) s t at a n e

-- from the place that the reading of s came to, it comes on a longer list to where it comes from the start
abbrev On : List ℕ → Went → Went
On l w = went (5 - w.piece) w.piece l w.at

pub resumed : (n i : ℕ) (s t : List ℕ) (at : ℕ) → i + n ≡ 5 → On (s ++ t) (went n i s at) ≡ went n i (s ++ t) at
unfolding went
resumed zero i s t at h = let none : 5 - i ≡ 0 = omega arith in ap (λ (m : ℕ). went m i (s ++ t) at) none
resumed (suc n) i s t at h = by (run (piece i) s at) refl (λ k. resumed n (suc i) s t k (omega arith))
  where
    by : (o : Outcome Unit) → run (piece i) s at ≡ o → ((k : ℕ) → On (s ++ t) (went n (suc i) s k) ≡ went n (suc i) (s ++ t) k)
        → On (s ++ t) (onward o (λ k. went n (suc i) s k) (record { piece = i; at = at; end = o })) ≡ went (suc n) i (s ++ t) at
    by (got a k) q ih =
        ih k
        ∙ ap (λ o. onward o (λ j. went n (suc i) (s ++ t) j) (record { piece = i; at = at; end = o })) (sym (got_more (piece i) s t at a k q))
    by (refused k m) q ih = let left : 5 - i ≡ suc n = omega arith in ap (λ (m : ℕ). went m i (s ++ t) at) left

-- ---- a turn of the loop

-- a piece more to be read, whose reader gave r; and none
pub turn : (i : ℕ) {c c' : Cursor} {r : Result Unit Refusal} → i < 5 → Took (piece i) c r c'
    → went (5 - i) i c.bytes.now c.at ≡ onward (outcome r c'.at) (λ k. went (5 - (i + 1)) (i + 1) c'.bytes.now k) (record { piece = i; at = c.at; end = outcome r c'.at })
unfolding went
turn i {c} {c'} {r} h t =
    ap (λ (n : ℕ). went n i c.bytes.now c.at) (more 5 i h)
    ∙ ap (λ (j : ℕ). onward (run (piece i) c.bytes.now c.at) (λ k. went (5 - (i + 1)) j c.bytes.now k) (record { piece = i; at = c.at; end = run (piece i) c.bytes.now c.at })) (sym (add-one i))
    ∙ ap (λ o. onward o (λ k. went (5 - (i + 1)) (i + 1) c.bytes.now k) (record { piece = i; at = c.at; end = o })) (sym t.answer)
    ∙ ap (λ b. onward (outcome r c'.at) (λ k. went (5 - (i + 1)) (i + 1) b.now k) (record { piece = i; at = c.at; end = outcome r c'.at })) (sym t.lent)

pub no_turn : (i : ℕ) (s : List ℕ) (at : ℕ) → 5 ≤ i → went (5 - i) i s at ≡ record { piece = i; at = at; end = run (skip 1) s at }
unfolding went
no_turn i s at h = ap (λ (n : ℕ). went n i s at) (zero_left 5 i h)

-- ---- how large its numbers are

bounded : {A : Type 0} (p : Steps A) (s : List ℕ) (at m : ℕ) → at ≤ m → length s ≤ m → taken (run p s at) ≤ m
bounded (done a) s at m h l = h
bounded (refuse k) s at m h l = h
bounded (next f) s at m h l = by_next (λ o. taken o ≤ m) f s at (λ b. bounded (f (get_or s at 0)) s (at + 1) m (omega arith) l) (λ b. h)
bounded (here f) s at m h l = bounded (f at) s at m h l

pub record Small (m : ℕ) (w : Went) : Type 0 where
  pub piece : w.piece ≤ 5
  pub at : w.at ≤ m
  pub end : taken w.end ≤ m

pub small : (n i : ℕ) (s : List ℕ) (at m : ℕ) → i + n ≡ 5 → at ≤ m → length s ≤ m → Small m (went n i s at)
unfolding went
small zero i s at m e h l = record { piece = omega arith; at = h; end = bounded (skip 1) s at m h l }
small (suc n) i s at m e h l = by (run (piece i) s at) (bounded (piece i) s at m h l) (λ k b. small n (suc i) s k m (omega arith) b l)
  where
    by : (o : Outcome Unit) → taken o ≤ m → ((k : ℕ) → k ≤ m → Small m (went n (suc i) s k))
        → Small m (onward o (λ k. went n (suc i) s k) (record { piece = i; at = at; end = o }))
    by (got a k) b ih = ih k b
    by (refused k j) b ih = record { piece = omega arith; at = h; end = b }
