-- What the proof of the loop over the slots cites: a turn, and a refusal. Assumes nothing.
use Rattle.std.specs.Prelude.{Ok, Err, None, Option, Some}
use Prim.Native.Nat.{ℕ, ◌+◌, ◌<◌}
use mathlib.Core.Path.{◌≡◌, refl, ap, ◌∙◌}
use mathlib.Core.List.{List, []}
use native.Mathlib.Numerals.{add-one}
use Rattle.steps.specs.declared.Span.{Span}
use Rattle.fixed.specs.Gather.{gather_more}
use Rattle.bits.specs.Bytes.{part}
use Rattle.steps.specs.declared.Refusal.{Refusal}
use Rattle.standard_record.specs.Verdict.{Verdict}
use Rattle.standard_verdict.specs.Verdict.{refused_at, ◌then◌, before_slots}
use Rattle.standard_slots.specs.Said.{Said, refusal}
use Rattle.standard_reading.specs.Slots.{start, said_in, judge, judged, verdict_of}
use Rattle.standard_reading.specs.Judged.{end_is_verdict, accepted_before, accepted_slot}
use Rattle.naming.specs.Name.{texts_of, first, unless_refused, name_of}
use Rattle.naming.specs.Slots.{names, earlier, first_append, names_are}

module _ (s : List ℕ) where
  -- the first i slots are not refused, and this is the first name in them
  pub record Passed (i : ℕ) (name : Option Span) : Type 0 where
    pub passed : judged s i ≡ Ok tt
    pub found : name ≡ first (texts_of s i)

  -- one slot more, that says x
  pub one_more : {i : ℕ} {name : Option Span} {x : Said} → Passed i name → said_in s i ≡ x → judge x (start i) ≡ Ok tt → Passed (i + 1) (earlier name (names x))
  unfolding judged
  one_more {i} h e v =
      let v' : judge (said_in s i) (start i) ≡ (Ok tt) = rw e v in
      record {
        passed = rw add-one (ap (λ w. w then judge (said_in s i) (start i)) h.passed ∙ v');
        found = rw (gather_more, ← names_are _ (part s (start i) 18) (start i) i v', first_append, ← h.found, e);
      }

  -- and one more without a name
  pub no_more : {i : ℕ} {name : Option Span} {x : Said} → Passed i name → said_in s i ≡ x → judge x (start i) ≡ Ok tt → names x ≡ [] → Passed (i + 1) name
  no_more {name = name} h e v none = rw (none, still name) at (one_more h e v)
    where
      still : (name : Option Span) → earlier name [] ≡ name
      still None = refl
      still (Some t) = refl

  -- a block that is refused has no name: what an acceptance tells is not so
  refused : (v : Verdict) → (v ≡ Ok tt → first (texts_of s 4) ≡ None) → unless_refused v (first (texts_of s 4)) ≡ None
  refused (Ok tt) h = h refl
  refused (Err f) h = refl

  pub refused_before : (f : Refusal) → before_slots s ≡ Err f → name_of s ≡ None
  unfolding name_of
  refused_before f e = refused (verdict_of s) (λ a. let b = accepted_before s (end_is_verdict s ∙ a) in cc)

  pub refused_slot : (i n : ℕ) → i < 4 → said_in s i ≡ refusal n → name_of s ≡ None
  unfolding name_of
  refused_slot i n l e = refused (verdict_of s) (λ a. let b : refused_at n (start i) ≡ (Ok tt) = rw e at (accepted_slot s (end_is_verdict s ∙ a) i l) in cc)

  -- the name of one that is not is the first of its texts
  pub passed_all : {name : Option Span} → Passed 4 name → name ≡ name_of s
  unfolding name_of
  passed_all h = rw h.passed h.found
