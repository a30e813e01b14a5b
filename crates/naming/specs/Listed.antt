-- The name is the text that the standard record lists first under Name, and lies within the block.
use Rattle.std.specs.Prelude.{ℕ, zero, suc, ◌+◌, ◌≤◌, ◌≡◌, refl, List, [], ◌∷◌, ◌++◌, map, length, Ok, Err, None, Option, Some}
use Rattle.std.proofs.Common.{sym, ap, ◌∙◌, append-nil, append_assoc, arith}
use Rattle.steps.specs.declared.Span.{Span}
use Rattle.steps.specs.Spans.{Text}
use Rattle.standard_record.specs.Filler.{blank}
use Rattle.standard_record.specs.Held.{held}
use Rattle.standard_record.specs.Seen.{seen, shows}
use Rattle.standard_record.specs.declared.Descriptor.{Descriptor}
use Rattle.standard_record.specs.declared.Held.{Held}
use Rattle.standard_record.specs.Verdict.{Verdict}
use Rattle.standard_slots.specs.Said.{Said, refusal, nothing, timing, pairs, points, described, lists}
use Rattle.standard_slots.specs.Spans.{Sound, Sounds}
use Rattle.standard_reading.specs.Slots.{start, said_in, verdict_of}
use Rattle.standard_reading.specs.Block.{descriptors_of, plain, record_of, beside, standard_of}
use Rattle.standard_reading.specs.Judged.{end_is_verdict, accepted_has_128, accepted_slot, sounds}
use Rattle.standard_reading.specs.Room.{fits}
use Rattle.naming.specs.Name.{slot, texts_of, first, unless_refused, name_of}
use Rattle.naming.specs.Slots.{name_as, names, names_are}

-- the texts under Name of a list of descriptors, in its order
abbrev pub names_in : List Held → List Span
names_in [] = []
names_in (h ∷ hs) = name_as h.descriptor ++ names_in hs

names_append : (hs ks : List Held) → names_in (hs ++ ks) ≡ names_in hs ++ names_in ks
names_append [] ks = refl
names_append (h ∷ hs) ks = rw (names_append hs ks, append_assoc)

-- those of one slot
names_of_slot : (k : ℕ) (x : Said) → names_in (map (held.wrap k) (lists x).descriptors) ≡ names x
names_of_slot k (refusal n) = refl
names_of_slot k nothing = refl
names_of_slot k (timing d) = refl
names_of_slot k (pairs ps) = refl
names_of_slot k (points ws) = refl
names_of_slot k (described d) = append-nil (name_as d)

module _ (s : List ℕ) (e : (standard_of s).end ≡ Ok tt) where
  names_after : (n : ℕ) → n ≤ 4 → names_in (descriptors_of s n) ≡ texts_of s n
  names_after zero h = refl
  names_after (suc n) h =
      names_append (descriptors_of s n) (map (held.wrap (n + 1)) (lists (said_in s n)).descriptors)
      ∙ rw (names_after n (omega arith), names_of_slot, names_are _ (slot s n) (start n) n (accepted_slot s e n (omega arith)))

-- beside a refusal the record lists nothing
pub listed_first : (s : List ℕ) → name_of s ≡ first (names_in (seen (standard_of s).edid).descriptors)
unfolding name_of standard_of record_of seen blank
listed_first s = go (verdict_of s) refl
  where
    go : (v : Verdict) → verdict_of s ≡ v → unless_refused v (first (texts_of s 4)) ≡ first (names_in (seen (beside v (record_of s)).edid).descriptors)
    go (Ok tt) e =
        ap first (sym (names_after s (end_is_verdict s ∙ e) 4 (omega arith))) ∙ ap (λ x. first (names_in x.descriptors)) (sym (shows (plain s) (fits s)))
    go (Err f) e = refl

-- ---- it is a text within the block

abbrev pub SoundName : List ℕ → Option Span → Type 0
SoundName s None = Unit
SoundName s (Some t) = Text s t 126 × (length s ≡ 128)

pub sound_name : (s : List ℕ) → SoundName s (name_of s)
unfolding name_of
sound_name s = go (verdict_of s) refl
  where
    first_sound : (s : List ℕ) → length s ≡ 128 → (hs : List Held) → Sounds s hs 126 → SoundName s (first (names_in hs))
    first_sound s l [] h = tt
    first_sound s l (k ∷ hs) h = go k.descriptor h.0 (first_sound s l hs h.1)
      where
        go : (d : Descriptor) → Sound s d 126 → SoundName s (first (names_in hs)) → SoundName s (first (name_as d ++ names_in hs))
        go (Descriptor.Serial t) q later = later
        go (Descriptor.Text t) q later = later
        go (Descriptor.Range r t) q later = later
        go (Descriptor.Name t) q later = (q, l)
        go (Descriptor.Undefined tag d) q later = later
        go (Descriptor.MakerDefined tag d) q later = later

    go : (v : Verdict) → verdict_of s ≡ v → SoundName s (unless_refused v (first (texts_of s 4)))
    go (Ok tt) e =
        let a = end_is_verdict s ∙ e in
        rw (names_after s a 4 (omega arith)) at (first_sound s (accepted_has_128 s a) (descriptors_of s 4) (sounds s a))
    go (Err f) e = tt
