-- What it is to write a slot that holds no timing and no pairs.
use Rattle.std.specs.Prelude.{ℕ, ◌≡◌, Bool, List, [], ◌∷◌, length}
use Rattle.standard_record.specs.declared.Descriptor.{Descriptor}
use Rattle.standard_parts.specs.declared.Structure.{Structure}
use Rattle.standard_slots.specs.Said.{said}
use Rattle.standard_slots.specs.Answers.{of_points}
use Rattle.standard_slots.specs.declared.Points.{Points}
use Rattle.write_leaf.specs.Bytes.{Bytes}
use Rattle.write_leaf.specs.Leaf.{Writes}
use Rattle.write_slots.specs.Words.{words, SpanInside, Entries, entries, these, shows}
use Rattle.write_slots.specs.Slot.{descriptor_bytes, slot_bytes}

-- 18 bytes that show these entries, in a slot that is not the first
pub record Reads (σ : Structure) (t : List ℕ) (l : Entries) : Type 0 where
  pub size : length t ≡ 18
  pub shown : shows t (said σ 1 t 0) ≡ these l

-- as many points as there are
abbrev pub ReadsPoints : Structure → List ℕ → Points → Type 0
ReadsPoints σ t ps = Reads σ t (entries [] [] (of_points ps) [])

abbrev pub WritesPoints : Structure → Points → Bool → List ℕ → Type 0
WritesPoints σ = Writes Bytes (ReadsPoints σ) (λ ps. slot_bytes [] [] (of_points ps) [])

-- a descriptor whose span, if it has one, lies inside the bytes lent
abbrev pub ReadsDescriptor : Structure → List ℕ → List ℕ → Descriptor → Type 0
ReadsDescriptor σ lent t d = SpanInside d (length lent) × Reads σ t (entries [] [] [] (words lent d ∷ []))

abbrev pub WritesDescriptor : Structure → List ℕ → Descriptor → Bool → List ℕ → Type 0
WritesDescriptor σ lent = Writes Bytes (ReadsDescriptor σ lent) (λ d. descriptor_bytes (words lent d))
