-- Where the spans of a slot lie, and what its texts are. s is the whole block.
use Prim.Native.Nat.{ℕ}
use Rattle.std.specs.Prelude.{List, [], ◌∷◌, ◌++◌}
use Rattle.steps.specs.Spans.{Inside, Text}
use Rattle.standard_record.specs.declared.Held.{Held}
use Rattle.standard_record.specs.declared.Descriptor.{Descriptor}
use Rattle.standard_record.specs.declared.SecondaryTiming.{SecondaryTiming}

-- ---- what is said of a descriptor, and of all of them, before the place n

abbrev pub SoundSecond : SecondaryTiming → ℕ → Type 0
SoundSecond SecondaryTiming.None n = Unit
SoundSecond (SecondaryTiming.GTF start c m k j) n = Unit
SoundSecond (SecondaryTiming.Other kind d) n = Inside d n

abbrev pub Sound : List ℕ → Descriptor → ℕ → Type 0
Sound s (Descriptor.Serial t) n = Text s t n
Sound s (Descriptor.Text t) n = Text s t n
Sound s (Descriptor.Range l t) n = SoundSecond t n
Sound s (Descriptor.Name t) n = Text s t n
Sound s (Descriptor.Undefined tag d) n = Inside d n
Sound s (Descriptor.MakerDefined tag d) n = Inside d n

abbrev pub Sounds : List ℕ → List Held → ℕ → Type 0
Sounds s [] n = Unit
Sounds s (h ∷ hs) n = Sound s h.descriptor n × Sounds s hs n

pub sounds_append : (s : List ℕ) (a b : List Held) (n : ℕ) → Sounds s a n → Sounds s b n → Sounds s (a ++ b) n
sounds_append s [] b n e h = h
sounds_append s (x ∷ a) b n e h = (e.0, sounds_append s a b n e.1 h)
