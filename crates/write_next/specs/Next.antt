-- What the answers of `write_next` say: no entry, or the next one.
use Rattle.std.specs.Prelude.{ℕ, min, Bool, ◌&&◌, List, [], ◌∷◌, eqb, ltb, Option, Some, None}
use Rattle.standard_record.specs.declared.DetailedTiming.{DetailedTiming}
use Rattle.standard_record.specs.declared.Descriptor.{Descriptor}

abbrev pub of_timing : Option DetailedTiming → List DetailedTiming
of_timing None = []
of_timing (Some d) = d ∷ []

abbrev pub of_descriptor : Option Descriptor → List Descriptor
of_descriptor None = []
of_descriptor (Some d) = d ∷ []

-- the place k is in a list of that length and size, and the entry there, of this slot, has the number n
abbrev pub own : ℕ → ℕ → ℕ → ℕ → ℕ → Bool
own k len size slot n = ltb k (min len size) && eqb slot n

-- a second entry only behind a first
abbrev pub two_of : {A : Type 0} → List A → List A → List A
two_of [] ys = []
two_of (x ∷ xs) ys = x ∷ ys
