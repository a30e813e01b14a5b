-- What a read does to a cursor, and reads one after the other.
use Rattle.std.specs.Prelude.{ℕ, ◌≡◌, refl, Bool, true, false, Result, Ok, Err}
use Rattle.std.proofs.Common.{sym, ap, subst, ◌∙◌}
use Rattle.steps.specs.Steps.{Steps, done, refuse, here, ◌>>=◌, run, and_then, ensure}
use Rattle.steps.specs.Leaves.{byte, two, four, outcome, Stands}
use Rattle.steps.specs.Laws.{run_bind, same_run}
use Rattle.steps.specs.declared.Cursor.{Cursor}
use Rattle.steps.specs.declared.Refusal.{Refusal}

-- the answer is that of a program, from where the cursor stood; the bytes stay lent
pub record Took {A : Type 0} (p : Steps A) (old : Cursor) (r : Result A Refusal) (new : Cursor) : Type 0 where
  pub lent : new.bytes ≡ old.bytes
  pub answer : outcome r new.at ≡ run p old.bytes.now old.at
  pub stands : Stands r new.at

-- ---- one read after the other: the first gives a value, or is refused

after : {A B : Type 0} {p : Steps A} (g : A → Steps B) {c c' : Cursor} {r : Result A Refusal} → Took p c r c'
    → run (p >>= g) c.bytes.now c.at ≡ and_then (outcome r c'.at) (λ a n. run (g a) c.bytes.now n)
after {p = p} g {c = c} t = run_bind p g c.bytes.now c.at ∙ ap (λ o. and_then o (λ a n. run (g a) c.bytes.now n)) (sym t.answer)

pub then : {A B : Type 0} {p : Steps A} (g : A → Steps B) {c c' c'' : Cursor} {a : A} {r : Result B Refusal}
    → Took p c (Ok a) c' → Took (g a) c' r c'' → Took (p >>= g) c r c''
then g {c' = c'} {a = a} t u = record {
  lent = u.lent ∙ t.lent;
  answer = u.answer ∙ ap (λ b. run (g a) b.now c'.at) t.lent ∙ sym (after g t);
  stands = u.stands;
}

pub stop : {A B : Type 0} {p : Steps A} (g : A → Steps B) {c c' : Cursor} {f : Refusal} {r : Result B Refusal}
    → Took p c (Err f) c' → r ≡ Err f → Took (p >>= g) c r c'
stop g {c' = c'} t e = record {
  lent = t.lent;
  answer = ap (λ r. outcome r c'.at) e ∙ sym (after g t);
  stands = subst (λ r. Stands r c'.at) (sym e) t.stands;
}

-- the same where the code takes two or four bytes at once, and the program one after the other
pub then_two : {B : Type 0} (g : ℕ → ℕ → Steps B) {c c' c'' : Cursor} {p : ℕ × ℕ} {r : Result B Refusal}
    → Took two c (Ok p) c' → Took (g p.0 p.1) c' r c'' → Took (byte >>= (λ a. byte >>= (λ b. g a b))) c r c''
unfolding byte two
then_two g t u = then (λ p. g p.0 p.1) t u

pub stop_two : {B : Type 0} (g : ℕ → ℕ → Steps B) {c c' : Cursor} {f : Refusal} {r : Result B Refusal}
    → Took two c (Err f) c' → r ≡ Err f → Took (byte >>= (λ a. byte >>= (λ b. g a b))) c r c'
unfolding byte two
stop_two g t e = stop (λ p. g p.0 p.1) t e

pub then_four : {B : Type 0} (g : ℕ → ℕ → ℕ → ℕ → Steps B) {c c' c'' : Cursor} {p : ℕ × ℕ × ℕ × ℕ} {r : Result B Refusal}
    → Took four c (Ok p) c' → Took (g p.0 p.1 p.2 p.3) c' r c''
    → Took (byte >>= (λ a. byte >>= (λ b. byte >>= (λ x. byte >>= (λ y. g a b x y))))) c r c''
unfolding byte four
then_four g t u = then (λ p. g p.0 p.1 p.2 p.3) t u

pub stop_four : {B : Type 0} (g : ℕ → ℕ → ℕ → ℕ → Steps B) {c c' : Cursor} {f : Refusal} {r : Result B Refusal}
    → Took four c (Err f) c' → r ≡ Err f
    → Took (byte >>= (λ a. byte >>= (λ b. byte >>= (λ x. byte >>= (λ y. g a b x y))))) c r c'
unfolding byte four
stop_four g t e = stop (λ p. g p.0 p.1 p.2 p.3) t e

-- ---- no byte: the place, a value, a refusal, a test that holds, a test that fails

pub at_place : {A : Type 0} (f : ℕ → Steps A) {c c' : Cursor} {r : Result A Refusal} → Took (f c.at) c r c' → Took (here f) c r c'
at_place f t = record { lent = t.lent; answer = t.answer; stands = t.stands }

pub gives : {A : Type 0} {a : A} {c : Cursor} {r : Result A Refusal} → r ≡ Ok a → Took (done a) c r c
gives {c = c} e = record {
  lent = refl;
  answer = ap (λ r. outcome r c.at) e;
  stands = subst (λ r. Stands r c.at) (sym e) tt;
}

pub refuses : {A : Type 0} {k : ℕ} {c : Cursor} → Took {A = A} (refuse k) c (Err (record { number = k; at = c.at })) c
refuses = record { lent = refl; answer = refl; stands = refl }

pub holds : {B : Type 0} (t : Bool) (k : ℕ) (g : Unit → Steps B) {c c' : Cursor} {r : Result B Refusal} → t ≡ true → Took (g tt) c r c'
    → Took (ensure t k >>= g) c r c'
holds t k g {c = c} {c' = c'} {r = r} e u = subst (λ (t : Bool). Took (ensure t k >>= g) c r c') (sym e) u

pub fails : {B : Type 0} (t : Bool) (k : ℕ) (g : Unit → Steps B) {c : Cursor} → t ≡ false
    → Took (ensure t k >>= g) c (Err (record { number = k; at = c.at })) c
fails t k g {c = c} e =
    subst (λ (t : Bool). Took (ensure t k >>= g) c (Err (record { number = k; at = c.at })) c) (sym e)
    refuses

-- one program for an equal one
pub as_of : {A : Type 0} {p q : Steps A} {c c' : Cursor} {r : Result A Refusal} → p ≡ q → Took q c r c' → Took p c r c'
as_of {c = c} {c' = c'} {r = r} e t = subst (λ p. Took p c r c') (sym e) t

-- one answer for an equal one
pub answers : {A : Type 0} {p : Steps A} {c c' : Cursor} {r r' : Result A Refusal} → Took p c r c' → r' ≡ r → Took p c r' c'
answers {p = p} {c = c} {c' = c'} t e = subst (λ r. Took p c r c') (sym e) t

-- ---- in a loop: what is left of a program, from where the cursor stands
abbrev pub Left : {A : Type 0} → Steps A → Cursor → Steps A → Cursor → Type 0
Left {A} p old q c = (r : Result A Refusal) (new : Cursor) → Took q c r new → Took p old r new

-- what a read that fills a lent value answers: that value, as it is then
abbrev pub with_value : {A : Type 0} → A → Result Unit Refusal → Result A Refusal
with_value a (Ok t) = Ok a
with_value a (Err f) = Err f

pub with_refusal : {A : Type 0} (a : A) {f : Refusal} {r : Result Unit Refusal} → r ≡ Err f → with_value a r ≡ Err f
with_refusal a e = ap (with_value a) e

pub stop_with : {A B : Type 0} {p : Steps A} (g : A → Steps B) (b : B) {c c' : Cursor} {f : Refusal} {r : Result Unit Refusal}
    → Took p c (Err f) c' → r ≡ Err f → Took (p >>= g) c (with_value b r) c'
stop_with g b t e = stop g t (with_refusal b e)
