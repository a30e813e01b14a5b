-- Where the name stands: in the first slot with tag fc of a block that is accepted. So it begins at one of three places.
use Rattle.std.specs.Prelude.{ℕ, zero, suc, ◌+◌, ◌≤◌, ◌<◌, ◌≡◌, Bool, List, Ok, Err, None, Option, Some}
use Rattle.std.proofs.Math.Path.{refl}
use Rattle.std.proofs.Common.{sym, ◌∙◌, inl, inr, arith, eqb-true}
use Rattle.std.proofs.Math.Bool.{true, false}
use Rattle.std.proofs.lemmas.Bool.{false≢true, eqb-false}
use Rattle.std.proofs.Math.Dec.{eqb}
use Rattle.fixed.specs.Gather.{gather, when}
use Rattle.steps.specs.declared.Span.{Span}
use Rattle.standard_record.specs.Verdict.{Verdict}
use Rattle.standard_timing.specs.Timing.{clock_in}
use Rattle.standard_verdict.specs.Verdict.{refused_at}
use Rattle.standard_slots.specs.Said.{text_in, said}
use Rattle.standard_reading.specs.Slots.{start, said_in, judge, verdict_of}
use Rattle.standard_reading.specs.Judged.{end_is_verdict, accepted_slot}
use Rattle.naming.specs.Name.{slot, is_named, texts_of, first, unless_refused, name_of}
use Rattle.naming.specs.Slots.{earlier, first_append}
use Rattle.naming.specs.Stands.{Stands, in_slot, in_none, refused, ThreePlaces, Begins}

module _ (f : ℕ → Bool) (g : ℕ → Span) where
  data First (n : ℕ) : Option Span → Type 0 where
    found : (i : ℕ) → i < n → f i ≡ true → ((j : ℕ) → j < i → f j ≡ false) → First n (Some (g i))
    none : ((j : ℕ) → j < n → f j ≡ false) → First n None

  one_more : {n : ℕ} {name : Option Span} (b : Bool) → f n ≡ b → First n name → First (suc n) (earlier name (when b (g n)))
  one_more b e (found i h t before) = found i (omega arith) t before
  one_more {n} true e (none before) = found n (omega arith) e before
  one_more {n} false e (none before) = none (λ j h. go j h (eqb j n) refl)
    where
      go : (j : ℕ) → j < suc n → (b : Bool) → eqb j n ≡ b → f j ≡ false
      go j h true p = rw (eqb-true j n p) e
      go j h false p = before j (omega (arith, eqb-false j n p))

  first_is : (n : ℕ) → First n (first (gather (λ i. when (f i) (g i)) n))
  first_is zero = none (λ j h. absurd (omega arith))
  first_is (suc n) = rw first_append (one_more (f n) refl (first_is n))

module _ (s : List ℕ) where
  abbrev FirstOf : Option Span → Type 0
  FirstOf = First (λ i. is_named (slot s i)) (λ i. text_in (slot s i) (start i)) 4

  module _ (a : verdict_of s ≡ Ok tt) where
    first_timing : is_named (slot s 0) ≡ false
    unfolding said
    first_timing = go (eqb (clock_in (slot s 0)) 0) refl (accepted_slot s (end_is_verdict s ∙ a) 0 (omega arith))
      where
        go : (b : Bool) → eqb (clock_in (slot s 0)) 0 ≡ b → judge (said_in s 0) (start 0) ≡ Ok tt → is_named (slot s 0) ≡ false
        go true p j = let r : refused_at 3 54 ≡ (Ok tt) = rw p at j in cc
        go false p j = rw p

    later : (i : ℕ) → is_named (slot s i) ≡ true → 1 ≤ i
    later zero t = absurd (false≢true (sym first_timing ∙ t))
    later (suc i) t = omega arith

    accepted : {name : Option Span} → FirstOf name → Stands s name
    accepted (found i h t before) = in_slot a i (later i t) h t before
    accepted (none before) = in_none a before

  by : (v : Verdict) → verdict_of s ≡ v → FirstOf (first (texts_of s 4)) → Stands s (unless_refused v (first (texts_of s 4)))
  by (Ok tt) a h = accepted a h
  by (Err f) e h = refused f e

  pub stands : Stands s (name_of s)
  unfolding name_of
  stands = by (verdict_of s) refl (first_is (λ i. is_named (slot s i)) (λ i. text_in (slot s i) (start i)) 4)

place : (i : ℕ) → 1 ≤ i → i < 4 → ThreePlaces (start i + 5)
place zero l h = absurd (omega arith)
place (suc zero) l h = inl refl
place (suc (suc zero)) l h = inr (inl refl)
place (suc (suc (suc zero))) l h = inr (inr refl)
place (suc (suc (suc (suc i)))) l h = absurd (omega arith)

pub begins : (s : List ℕ) → Begins (name_of s)
begins s = go (stands s)
  where
    go : {name : Option Span} → Stands s name → Begins name
    go (in_slot a i l h t before) = place i l h
    go (in_none a before) = tt
    go (refused f e) = tt
