-- Every span of an accepted record lies inside the bytes taken; a text holds no 0x0a, and one stands behind it where it is shorter than 13.
use Rattle.std.specs.Prelude.{ℕ, zero, suc, ◌+◌, ◌-◌, ◌≤◌, ◌<◌, ◌≡◌, Bool, true, false, cond, List, [], ◌∷◌, ◌++◌, eqb, ltb, get_or, Option, Some, None}
use Rattle.std.proofs.Common.{sym, ◌∙◌, ap, subst, arith, le_refl, eqb-true}
use Rattle.std.proofs.lemmas.Bool.{eqb-false}
use Rattle.steps.specs.Steps.{done, ◌>>=◌, got}
use Rattle.steps.specs.Leaves.{byte, word}
use Rattle.steps.specs.Meets.{Meets, Gives, meets, meets_map, meets_then, meets_after, meets_on, meets_if, meets_ensured, meets_ends}
use Rattle.steps.specs.Spans.{Inside, Text}
use Rattle.steps.specs.declared.Span.{Span}
use Rattle.crate_text.specs.Text.{scan, padding, skip, span, text}
use Rattle.crate_text.specs.Sizes.{takes_skip}
use Rattle.crate_record.specs.Seen.{seen}
use Rattle.crate_record.specs.declared.EDID.{EDID}
use Rattle.crate_record.specs.declared.DetailedTiming.{DetailedTiming}
use Rattle.crate_record.specs.declared.SecondaryTiming.{SecondaryTiming}
use Rattle.crate_record.specs.declared.SecondaryTiming.TheVariants as Second
use Rattle.crate_record.specs.declared.MonitorDescriptor.{MonitorDescriptor}
use Rattle.crate_record.specs.declared.MonitorDescriptor.TheVariants.{SerialNumber, OtherString, RangeLimits, MonitorName, Undefined, ManufacturerDefined}
use Rattle.crate_head.specs.Head.{front}
use Rattle.crate_timings.specs.Established.{established}
use Rattle.crate_timings.specs.Pairs.{pairs}
use Rattle.tags.specs.Tags.{tag_of}
use Rattle.tags.specs.declared.Tag.{Tag}
use Rattle.crate_detailed.specs.Detailed.{detailed}
use Rattle.crate_descriptors.specs.Descriptors.{closing, points, white, none, gtf_of, gtf, other, secondary, range, string_of, string, raw_of, raw, by_tag, tagged, descriptor}
use Rattle.crate_descriptors.specs.declared.Points.TheVariants.{One, Two}
use Rattle.crate_descriptors.specs.declared.Slot.{Slot}
use Rattle.crate_descriptors.specs.declared.Slot.TheVariants.{Nothing, Described, White, Six}
use Rattle.crate_slots.specs.Slots.{Said, said_by, said_first, said_later, later, slots, lists, together}
use Rattle.crate_reading.specs.Reading.{Parts, parts, plain, answer}
use Rattle.demands.specs.Demands.{nothing_dropped}

-- ---- what is said of a descriptor, and of all of them, at the place n

abbrev pub SoundSecond : SecondaryTiming → ℕ → Type 0
SoundSecond Second.None n = Unit
SoundSecond (Second.GTF a b c d e) n = Unit
SoundSecond (Second.Other k d) n = Inside d n

abbrev pub Sound : List ℕ → MonitorDescriptor → ℕ → Type 0
Sound s (SerialNumber t) n = Text s t n
Sound s (OtherString t) n = Text s t n
Sound s (MonitorName t) n = Text s t n
Sound s (RangeLimits l t) n = SoundSecond t n
Sound s (Undefined k d) n = Inside d n
Sound s (ManufacturerDefined k d) n = Inside d n

abbrev pub Sounds : List ℕ → List MonitorDescriptor → ℕ → Type 0
Sounds s [] n = Unit
Sounds s (h ∷ hs) n = Sound s h n × Sounds s hs n

-- further on it still holds
text_later : (s : List ℕ) (t : Span) (n m : ℕ) → n ≤ m → Text s t n → Text s t m
text_later s t n m h e =
    record {
      inside = omega (arith, e.inside);
      short = e.short;
      clean = e.clean;
      behind = λ l. (omega (arith, e.behind l), (e.behind l).1);
    }

sound_later : (s : List ℕ) (d : MonitorDescriptor) (n m : ℕ) → n ≤ m → Sound s d n → Sound s d m
sound_later s (SerialNumber t) n m h e = text_later s t n m h e
sound_later s (OtherString t) n m h e = text_later s t n m h e
sound_later s (MonitorName t) n m h e = text_later s t n m h e
sound_later s (RangeLimits l Second.None) n m h e = tt
sound_later s (RangeLimits l (Second.GTF a b c d f)) n m h e = tt
sound_later s (RangeLimits l (Second.Other k d)) n m h e = omega arith
sound_later s (Undefined k d) n m h e = omega arith
sound_later s (ManufacturerDefined k d) n m h e = omega arith

sounds_later : (s : List ℕ) (hs : List MonitorDescriptor) (n m : ℕ) → n ≤ m → Sounds s hs n → Sounds s hs m
sounds_later s [] n m h e = tt
sounds_later s (x ∷ hs) n m h e = (sound_later s x n m h e.0, sounds_later s hs n m h e.1)

sounds_append : (s : List ℕ) (a b : List MonitorDescriptor) (n : ℕ) → Sounds s a n → Sounds s b n → Sounds s (a ++ b) n
sounds_append s [] b n e h = h
sounds_append s (x ∷ a) b n e h = (e.0, sounds_append s a b n e.1 h)

-- ---- a text

record Scanned (s : List ℕ) (start n i len m : ℕ) : Type 0 where
  low : i ≤ len
  high : len ≤ i + n
  inside : start + len ≤ m
  clean : (j : ℕ) → i + j < len → get_or s (start + (i + j)) 0 ≡ 0x0a → ⊥
  behind : len < i + n → (start + len < m) × (get_or s (start + len) 0 ≡ 0x0a)

-- a byte that is not 0x0a, and the rest
module _ (s : List ℕ) (start n i at len m : ℕ) (e : at ≡ start + i) (t : eqb (get_or s at 0) 0x0a ≡ false) (q : Scanned s start n (i + 1) len m) where
  clean_from : (j : ℕ) → i + j < len → get_or s (start + (i + j)) 0 ≡ 0x0a → ⊥
  clean_from zero k h = eqb-false (get_or s at 0) 0x0a t (subst (λ (x : ℕ). get_or s x 0 ≡ 0x0a) (omega arith) h)
  clean_from (suc j) k h = q.clean j (omega arith) (subst (λ (x : ℕ). get_or s x 0 ≡ 0x0a) (omega arith) h)

  scanned : Scanned s start (suc n) i len m
  scanned =
      record {
        low = omega (arith, q.low);
        high = omega (arith, q.high);
        inside = q.inside;
        clean = clean_from;
        behind = λ k. q.behind (omega arith);
      }

meets_scan : (s : List ℕ) (start n i at : ℕ) → at ≡ start + i → Meets s (Scanned s start n i) (scan n i) at
unfolding scan byte
meets_scan s start zero i at e =
    record {
      low = le_refl i;
      high = omega arith;
      inside = omega arith;
      clean = λ j l. absurd (omega arith);
      behind = λ l. absurd (omega arith);
    }
meets_scan s start (suc n) i at e =
    λ l. meets_if s (Scanned s start (suc n) i) (eqb (get_or s at 0) 0x0a) (done i) (scan n (i + 1)) (at + 1)
    (λ t. record {
      low = le_refl i;
      high = omega arith;
      inside = omega arith;
      clean = λ j k. absurd (omega arith);
      behind = λ k. (omega arith, ap (λ (x : ℕ). get_or s x 0) (sym e) ∙ eqb-true (get_or s at 0) 0x0a t);
    })
    (λ t. meets_map s (Scanned s start n (i + 1)) (Scanned s start (suc n) i) (scan n (i + 1)) (at + 1)
    (λ len m q. scanned s start n i at len m e t q) (meets_scan s start n (i + 1) (at + 1) (omega arith)))

meets_text : (s : List ℕ) (at : ℕ) → Meets s (Text s) text at
unfolding text
meets_text s at =
    meets_then s (Scanned s at 13 0) (Text s) (scan 13 0) _ at (meets_scan s at 13 0 at (omega arith))
    (λ len m q. meets_after s (Text s) (padding (12 - len)) _ m (λ _ n h.
    record {
      inside = omega (arith, q.inside);
      short = omega (arith, q.high);
      clean = λ i l e. q.clean i (omega arith) (subst (λ (x : ℕ). get_or s x 0 ≡ 0x0a) (omega arith) e);
      behind = λ l. (omega (arith, q.behind (omega arith)), (q.behind (omega arith)).1);
    }))

meets_span : (s : List ℕ) (k at : ℕ) → Meets s (λ d n. Inside d n) (span k) at
unfolding span
meets_span s k at =
    meets_then s (λ _ n. (m : ℕ) × (n ≡ at + m) × ((k ≤ m) × (m ≤ k))) _ (skip k) _ at (meets_ends s _ (skip k) at (takes_skip k))
    (λ _ n q. omega (arith, q.1, q.2))

-- ---- a slot

abbrev SoundSlot : List ℕ → Slot → ℕ → Type 0
SoundSlot s Nothing n = Unit
SoundSlot s (Described d) n = Sound s d n
SoundSlot s (White ps) n = Unit
SoundSlot s Six n = Unit

meets_gtf : (s : List ℕ) (at : ℕ) → Meets s SoundSecond gtf at
unfolding gtf gtf_of
meets_gtf s at =
    meets_after s SoundSecond byte _ at (λ b n h. meets_ensured s SoundSecond (eqb b 0x00) 4 _ n
    (λ t. meets_after s SoundSecond byte _ n (λ start m i. meets_after s SoundSecond byte _ m
    (λ c k j. meets_after s SoundSecond word _ k (λ w l o. meets_after s SoundSecond byte _ l
    (λ k u v. meets_after s SoundSecond byte _ u (λ j x y. tt)))))))

meets_secondary : (s : List ℕ) (kind at : ℕ) → Meets s SoundSecond (secondary kind) at
unfolding secondary none other
meets_secondary s kind at =
    meets_if s SoundSecond (eqb kind 0x00) none _ at (λ t. meets_after s SoundSecond (closing 3) _ at (λ _ n h. tt))
    (λ t. meets_if s SoundSecond (eqb kind 0x02) gtf (other kind) at (λ u. meets_gtf s at)
    (λ u. meets_then s (λ d n. Inside d n) SoundSecond (span 7) _ at (meets_span s 7 at) (λ d n q. q)))

meets_range : (s : List ℕ) (at : ℕ) → Meets s (SoundSlot s) range at
unfolding range byte
meets_range s at =
    λ a b c d e f. meets_then s SoundSecond (SoundSlot s) (secondary _) _ _ (meets_secondary s _ _) (λ t n q. q)

sound_string : (s : List ℕ) (tag : ℕ) (t : Span) (n : ℕ) → Text s t n → Sound s (string_of tag t) n
unfolding string_of
sound_string s tag t n q = go (eqb tag 0xfc) (eqb tag 0xfe)
  where
    go : (u v : Bool) → Sound s (cond u (MonitorName t) (cond v (OtherString t) (SerialNumber t))) n
    go true v = q
    go false true = q
    go false false = q

meets_string : (s : List ℕ) (tag at : ℕ) → Meets s (SoundSlot s) (string tag) at
unfolding string
meets_string s tag at = meets_then s (Text s) (SoundSlot s) text _ at (meets_text s at) (λ t n q. sound_string s tag t n q)

sound_raw : (s : List ℕ) (tag : ℕ) (d : Span) (n : ℕ) → Inside d n → Sound s (raw_of tag d) n
unfolding raw_of
sound_raw s tag d n q = go (ltb tag 0x10)
  where
    go : (u : Bool) → Sound s (cond u (ManufacturerDefined tag d) (Undefined tag d)) n
    go true = q
    go false = q

meets_raw : (s : List ℕ) (tag at : ℕ) → Meets s (SoundSlot s) (raw tag) at
unfolding raw
meets_raw s tag at = meets_then s (λ d n. Inside d n) (SoundSlot s) (span 13) _ at (meets_span s 13 at) (λ d n q. sound_raw s tag d n q)

meets_white : (s : List ℕ) (at : ℕ) → Meets s (SoundSlot s) white at
unfolding white
meets_white s at = meets_after s (SoundSlot s) points _ at (λ ps n h. meets_after s (SoundSlot s) (closing 1) _ n (λ _ m i. tt))

meets_by_tag : (s : List ℕ) (tag : ℕ) (t : Tag) (at : ℕ) → Meets s (SoundSlot s) (by_tag tag t) at
meets_by_tag s tag Tag.Dummy at = tt
meets_by_tag s tag Tag.Pairs at = tt
meets_by_tag s tag Tag.Points at = meets_white s at
meets_by_tag s tag Tag.Name at = meets_string s tag at
meets_by_tag s tag Tag.Range at = meets_range s at
meets_by_tag s tag Tag.Text at = meets_string s tag at
meets_by_tag s tag Tag.Serial at = meets_string s tag at
meets_by_tag s tag Tag.Raw at = meets_raw s tag at

meets_descriptor : (s : List ℕ) (at : ℕ) → Meets s (SoundSlot s) descriptor at
unfolding descriptor tagged byte
meets_descriptor s at = λ h i. meets_by_tag s (get_or s at 0) (tag_of (get_or s at 0)) (at + 1 + 1)

-- ---- the slots

abbrev SoundSaid : List ℕ → Said → ℕ → Type 0
SoundSaid s x n = Sounds s (lists x).descriptors n

meets_said : (s : List ℕ) (x : Slot) (n : ℕ) → SoundSlot s x n → Meets s (SoundSaid s) (said_by x) n
meets_said s Nothing n q = tt
meets_said s (Described d) n q = (q, tt)
meets_said s (White (One p)) n q = tt
meets_said s (White (Two p p')) n q = tt
meets_said s Six n q =
    meets_after s (SoundSaid s) (pairs 6) _ n (λ xs m h. meets_after s (SoundSaid s) (closing 0) _ m (λ _ k i. tt))

meets_slot : (s : List ℕ) (t : Option DetailedTiming) (at : ℕ) → Meets s (SoundSaid s) (said_later t) at
meets_slot s None at = meets_then s (SoundSlot s) (SoundSaid s) descriptor said_by at (meets_descriptor s at) (λ x n q. meets_said s x n q)
meets_slot s (Some t) at = tt

-- with the place no earlier than `at`
abbrev SoundAll : List ℕ → ℕ → List Said → ℕ → Type 0
SoundAll s at xs n = Sounds s (together xs).descriptors n × (at ≤ n)

meets_later : (s : List ℕ) (k at : ℕ) → Meets s (SoundAll s at) (later k) at
unfolding later
meets_later s zero at = (tt, le_refl at)
meets_later s (suc k) at =
    meets_after s (SoundAll s at) detailed _ at (λ t n h.
    meets_then s (λ x m. SoundSaid s x m × (n ≤ m)) (SoundAll s at) (said_later t) _ n (meets_on s (SoundSaid s) (said_later t) n (meets_slot s t n))
    (λ x m q. meets_then s (SoundAll s m) (SoundAll s at) (later k) _ m (meets_later s k m)
    (λ xs j r. (sounds_append s (lists x).descriptors (together xs).descriptors j (sounds_later s (lists x).descriptors m j r.1 q.0) r.0, omega arith))))

meets_first : (s : List ℕ) (t : Option DetailedTiming) (at : ℕ) → Meets s (λ xs n. Sounds s (together xs).descriptors n) (said_first t >>= (λ x. later 3 >>= (λ xs. done (x ∷ xs)))) at
meets_first s None at = tt
meets_first s (Some t) at = meets_then s (SoundAll s at) _ (later 3) _ at (meets_later s 3 at) (λ xs n q. q.0)

meets_slots : (s : List ℕ) (at : ℕ) → Meets s (λ xs n. Sounds s (together xs).descriptors n) slots at
unfolding slots
meets_slots s at = meets_after s _ detailed _ at (λ t n h. meets_first s t n)

abbrev SoundParts : List ℕ → Parts → ℕ → Type 0
SoundParts s p n = Sounds s (together p.slots).descriptors n

meets_parts : (s : List ℕ) (at : ℕ) → Meets s (SoundParts s) parts at
unfolding parts
meets_parts s at =
    meets_after s (SoundParts s) front _ at (λ f n h. meets_after s (SoundParts s) established _ n (λ e m i. meets_after s (SoundParts s) (pairs 8) _ m
    (λ a k j. meets_then s (λ xs n. Sounds s (together xs).descriptors n) (SoundParts s) slots _ k (meets_slots s k)
    (λ xs l q. meets_after s (SoundParts s) byte _ l (λ b o r. sounds_later s (together xs).descriptors l o r q)))))

-- every span of the record's descriptors lies inside the n bytes taken; a text is as said above
pub spans_inside : (s : List ℕ) (e : EDID) (n : ℕ) → answer s ≡ got e n → Sounds s (seen e).descriptors n
unfolding plain
spans_inside s e n h =
    let q = nothing_dropped s e n h in
    let r : SoundParts s q.0 n = subst (Gives (SoundParts s)) q.1 (meets s (SoundParts s) parts 0 (meets_parts s 0)) in
    subst (λ x. Sounds s x.descriptors n) (sym q.2) r
