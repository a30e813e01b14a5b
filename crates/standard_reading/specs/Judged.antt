-- Where a block is refused, and where the spans of one that is accepted lie.
use Prim.Native.Nat.{ℕ, zero, suc, ◌+◌, ◌≤◌, ◌<◌}
use Rattle.std.specs.Prelude.{◌≡◌, Bool, List, map, length, Ok, Err}
use Rattle.std.proofs.Math.Path.{refl}
use Rattle.std.proofs.Common.{sym, ◌∙◌, subst, arith}
use Rattle.std.proofs.Math.Bool.{true, false}
use Rattle.std.proofs.Math.Dec.{eqb}
use borrow.Author.Tests.{eqb-true, eqb-false}
use Rattle.bits.specs.Bytes.{part}
use Rattle.steps.specs.declared.Refusal.{Refusal}
use Rattle.standard_record.specs.Held.{held}
use Rattle.standard_record.specs.Verdict.{Verdict}
use Rattle.standard_verdict.specs.Verdict.{before_slots}
use Rattle.standard_verdict.specs.Laws.{then_first, then_second, has_128, Bounded, then_bounded, bounded_before}
use Rattle.standard_slots.specs.Said.{lists}
use Rattle.standard_slots.specs.Each.{each}
use Rattle.standard_slots.specs.Spans.{Sounds, sounds_append}
use Rattle.standard_slots.proofs.Spans.{sound_slot}
use Rattle.standard_reading.specs.Slots.{start, said_in, judge, judged, verdict_of}
use Rattle.standard_reading.specs.Block.{descriptors_of, record_of, beside, standard_of}

-- the end is the verdict
pub end_is_verdict : (s : List ℕ) → (standard_of s).end ≡ verdict_of s
unfolding standard_of
end_is_verdict s = go (verdict_of s)
  where
    go : (v : Verdict) → (beside v (record_of s)).end ≡ v
    go (Ok tt) = refl
    go (Err f) = refl

module _ (s : List ℕ) where
  -- a slot is refused by 3 to 6, at its start
  bounded_slot : (i : ℕ) → i < 4 → Bounded (judge (said_in s i) (start i))
  bounded_slot i h =
      each (λ x. Bounded (judge x (start i))) _ (part s (start i) 18) (start i) (record {
        refused = λ n k l. omega arith;
        none = tt;
        timed = λ d. tt;
        listed = tt;
        pointed = tt;
        name = tt;
        text = tt;
        serial = tt;
        range = tt;
        raw = tt;
      }) i

  bounded_after : (n : ℕ) → n ≤ 4 → Bounded (judged s n)
  unfolding judged
  bounded_after zero h = bounded_before s
  bounded_after (suc n) h = then_bounded (judged s n) (judge (said_in s n) (start n)) (bounded_after n (omega arith)) (bounded_slot n (omega arith))

  pub bounded : (f : Refusal) → (standard_of s).end ≡ Err f → Bounded (Err f)
  bounded f e = subst Bounded (sym (end_is_verdict s) ∙ e) (bounded_after 4 (omega arith))

  -- an accepted block is accepted before its slots, and in each of them
  pub accepted_before : (standard_of s).end ≡ Ok tt → before_slots s ≡ Ok tt
  unfolding judged
  accepted_before e = then_first _ _ (then_first _ _ (then_first _ _ (then_first _ _ (sym (end_is_verdict s) ∙ e))))

  judged_each : (n i : ℕ) → i < n → judged s n ≡ Ok tt → judge (said_in s i) (start i) ≡ Ok tt
  unfolding judged
  judged_each zero i h e = absurd (omega arith)
  judged_each (suc n) i h e = go (eqb i n) refl (λ l. judged_each n i l (then_first (judged s n) (judge (said_in s n) (start n)) e))
    where
      go : (z : Bool) → eqb i n ≡ z → (i < n → judge (said_in s i) (start i) ≡ Ok tt) → judge (said_in s i) (start i) ≡ Ok tt
      go true p before = rw (eqb-true i n p) (then_second (judged s n) (judge (said_in s n) (start n)) e)
      go false p before = before (omega (arith, eqb-false i n p))

  pub accepted_slot : (standard_of s).end ≡ Ok tt → (i : ℕ) → i < 4 → judge (said_in s i) (start i) ≡ Ok tt
  accepted_slot e i h = judged_each 4 i h (sym (end_is_verdict s) ∙ e)

  -- it has 128 bytes
  pub accepted_has_128 : (standard_of s).end ≡ Ok tt → length s ≡ 128
  accepted_has_128 e = has_128 s (accepted_before e)

  -- the spans of n slots end before byte 126
  sounds_after : length s ≡ 128 → (n : ℕ) → n ≤ 4 → Sounds s (descriptors_of s n) 126
  sounds_after whole zero h = tt
  sounds_after whole (suc n) h =
      sounds_append s (descriptors_of s n) (map (held.wrap (n + 1)) (lists (said_in s n)).descriptors) _
      (sounds_after whole n (omega arith)) (sound_slot s (start n) _ (omega arith) (omega arith) _ (n + 1) n)

  pub sounds : (standard_of s).end ≡ Ok tt → Sounds s (descriptors_of s 4) 126
  sounds e = sounds_after (accepted_has_128 e) 4 (omega arith)
