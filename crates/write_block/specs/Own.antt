-- The spans of an accepted block's own record lie inside it.
use Rattle.std.specs.Prelude.{ℕ, ◌≡◌, List, [], ◌∷◌, length, Ok}
use Rattle.std.proofs.Common.{ap, ◌∙◌, arith}
use Rattle.standard_record.specs.Seen.{seen, shows as holds}
use Rattle.standard_record.specs.declared.Held.{Held}
use Rattle.standard_record.specs.declared.Descriptor.{Descriptor}
use Rattle.standard_record.specs.declared.SecondaryTiming.{SecondaryTiming}
use Rattle.standard_slots.specs.Spans.{Sound, SoundSecond, Sounds}
use Rattle.standard_reading.specs.Block.{descriptors_of, plain, standard_of}
use Rattle.standard_reading.specs.Judged.{accepted_has_128, sounds}
use Rattle.standard_reading.specs.Room.{fits, accepted}
use Rattle.write_slots.specs.Words.{SpanInside}
use Rattle.write_block.specs.Gives.{SpansInside}

second_inside : (t : SecondaryTiming) → SoundSecond t 126 → SoundSecond t 128
second_inside SecondaryTiming.None h = tt
second_inside (SecondaryTiming.GTF start c m k j) h = tt
second_inside (SecondaryTiming.Other kind d) h = omega arith

inside : (b : List ℕ) (d : Descriptor) → Sound b d 126 → SpanInside d 128
inside b (Descriptor.Serial t) h = omega (arith, h.inside)
inside b (Descriptor.Text t) h = omega (arith, h.inside)
inside b (Descriptor.Range l t) h = second_inside t h
inside b (Descriptor.Name t) h = omega (arith, h.inside)
inside b (Descriptor.Undefined tag t) h = omega arith
inside b (Descriptor.MakerDefined tag t) h = omega arith

all_inside : (b : List ℕ) (hs : List Held) → Sounds b hs 126 → SpansInside hs 128
all_inside b [] h = tt
all_inside b (x ∷ hs) h = (inside b x.descriptor h.0, all_inside b hs h.1)

pub own_inside : (b : List ℕ) → (standard_of b).end ≡ Ok tt → SpansInside (seen (standard_of b).edid).descriptors (length b)
own_inside b e = rw (ap seen (accepted b e) ∙ holds (plain b) (fits b), accepted_has_128 b e) (all_inside b (descriptors_of b 4) (sounds b e))
