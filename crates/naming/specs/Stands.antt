-- Where the name stands: in the first slot with tag fc of a block that is accepted; that it does is in proofs/Stands.
use Rattle.std.specs.Prelude.{ℕ, ◌≤◌, ◌<◌, ◌≡◌, ◌⊎◌, List, Ok, Err, None, Option, Some}
use Rattle.steps.specs.declared.Span.{Span}
use Rattle.std.proofs.Math.Bool.{true, false}
use Rattle.steps.specs.declared.Refusal.{Refusal}
use Rattle.standard_slots.specs.Said.{text_in}
use Rattle.standard_reading.specs.Slots.{start, verdict_of}
use Rattle.naming.specs.Name.{slot, is_named}

-- behind the first slot, which is a timing there; and no other block has a name
pub data Stands (s : List ℕ) : Option Span → Type 0 where
  in_slot : verdict_of s ≡ Ok tt → (i : ℕ) → 1 ≤ i → i < 4 → is_named (slot s i) ≡ true → ((j : ℕ) → j < i → is_named (slot s j) ≡ false)
      → Stands s (Some (text_in (slot s i) (start i)))
  in_none : verdict_of s ≡ Ok tt → ((j : ℕ) → j < 4 → is_named (slot s j) ≡ false) → Stands s None
  refused : (f : Refusal) → verdict_of s ≡ Err f → Stands s None

-- ---- so it begins at one of three places

abbrev pub ThreePlaces : ℕ → Type 0
ThreePlaces k = (k ≡ 77) ⊎ ((k ≡ 95) ⊎ (k ≡ 113))

abbrev pub Begins : Option Span → Type 0
Begins None = Unit
Begins (Some t) = ThreePlaces t.start
