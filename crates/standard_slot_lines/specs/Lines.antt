-- The lines of the slots, detailed timings and descriptors: what each line is, byte for byte.
use Rattle.std.specs.Prelude.{ℕ, min, List, [], ◌∷◌, take}
use Rattle.page.specs.Words.{text, newline, field32, field16, field8, flag, flat, each}
use Rattle.shared_lines.specs.Lines.{axes, border_to_stereo, polarity, text_fields, raw, raw_fields}
use Rattle.standard_record.specs.declared.SyncLine.{SyncLine}
use Rattle.standard_record.specs.declared.SyncLine.TheVariants.{Green, RGB}
use Rattle.standard_record.specs.declared.Sync.{Sync}
use Rattle.standard_record.specs.declared.Sync.TheVariants.{AnalogComposite, BipolarAnalogComposite, DigitalComposite, DigitalSeparate}
use Rattle.standard_record.specs.declared.DetailedTiming.{DetailedTiming}
use Rattle.standard_record.specs.declared.HeldTiming.{HeldTiming}
use Rattle.standard_record.specs.Lists.{DetailedTimings}
use Rattle.standard_record.specs.declared.Limits.{Limits}
use Rattle.standard_record.specs.declared.SecondaryTiming.{SecondaryTiming}
use Rattle.standard_record.specs.declared.SecondaryTiming.TheVariants as Secondary
use Rattle.standard_record.specs.declared.Descriptor.{Descriptor}
use Rattle.standard_record.specs.declared.Descriptor.TheVariants.{Serial, Text, Range, Name, Undefined, MakerDefined}
use Rattle.standard_record.specs.declared.Held.{Held}
use Rattle.standard_record.specs.Lists.{Descriptors}

-- ---- detailed timings

abbrev pub line : SyncLine → ℕ
line Green = 0
line RGB = 1

-- its kind, and two values
unfoldable pub sync : Sync → List ℕ
sync (AnalogComposite serrated l) = flat (text " 0" ∷ flag serrated ∷ field8 (line l) ∷ [])
sync (BipolarAnalogComposite serrated l) = flat (text " 1" ∷ flag serrated ∷ field8 (line l) ∷ [])
sync (DigitalComposite serrated p) = flat (text " 2" ∷ flag serrated ∷ polarity p ∷ [])
sync (DigitalSeparate horizontal vertical) = flat (text " 3" ∷ polarity horizontal ∷ polarity vertical ∷ [])

-- a timing, wherever it stands
unfoldable pub timing_fields : DetailedTiming → List ℕ
timing_fields d = flat (
    axes d.clock d.across d.down ∷ field16 d.size.width ∷ field16 d.size.height ∷
    border_to_stereo d.border d.interlaced d.stereo ∷ sync d.sync ∷ [])

-- the slot's number last, as in each line of an entry
unfoldable pub detailed_line : HeldTiming → List ℕ
detailed_line h = flat (timing_fields h.timing ∷ field16 h.slot ∷ newline ∷ [])

-- a length above the list's size counts as that size
unfoldable pub detailed_lines : DetailedTimings → List ℕ
detailed_lines l = each detailed_line (take (min l.len 4) l.items)

-- ---- descriptors

unfoldable pub secondary : List ℕ → SecondaryTiming → List ℕ
secondary s Secondary.None = text " none"
secondary s (Secondary.GTF start c m k j) = flat (text " gtf" ∷ field32 start ∷ field8 c ∷ field16 m ∷ field8 k ∷ field8 j ∷ [])
secondary s (Secondary.Other kind d) = flat (text " other" ∷ raw s kind d ∷ [])

unfoldable pub range_fields : List ℕ → Limits → SecondaryTiming → List ℕ
range_fields s l t = flat (
    text "range" ∷ field16 l.vmin ∷ field16 l.vmax ∷ field32 l.hmin ∷ field32 l.hmax ∷ field32 l.clock ∷
    secondary s t ∷ [])

unfoldable pub descriptor_fields : List ℕ → Descriptor → List ℕ
descriptor_fields s (Serial d) = text_fields (text "serial") d
descriptor_fields s (Text d) = text_fields (text "text") d
descriptor_fields s (Range l t) = range_fields s l t
descriptor_fields s (Name d) = text_fields (text "name") d
descriptor_fields s (Undefined tag d) = raw_fields (text "undefined") s tag d
descriptor_fields s (MakerDefined tag d) = raw_fields (text "maker") s tag d

unfoldable pub held_line : List ℕ → Held → List ℕ
held_line s h = flat (descriptor_fields s h.descriptor ∷ field16 h.slot ∷ newline ∷ [])

unfoldable pub descriptor_lines : List ℕ → Descriptors → List ℕ
descriptor_lines s l = each (held_line s) (take (min l.len 3) l.items)
