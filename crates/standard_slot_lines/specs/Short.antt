-- How long the lines of the slots can be.
use Rattle.std.specs.Prelude.{ℕ, ◌≤◌, List, length}
use Rattle.std.proofs.Common.{arith, length-append}
use Rattle.page.specs.Words.{text, flat}
use Rattle.page.specs.Short.{field32_length, field16_length, field8_length, flag_length, first_length}
use Rattle.shared_lines.specs.Short.{axes_length, border_length, polarity_length, text_fields_length, raw_length, run_fields_length}
use Rattle.standard_record.specs.declared.Sync.{Sync}
use Rattle.standard_record.specs.declared.Sync.TheVariants.{AnalogComposite, BipolarAnalogComposite, DigitalComposite, DigitalSeparate}
use Rattle.standard_record.specs.declared.DetailedTiming.{DetailedTiming}
use Rattle.standard_record.specs.declared.HeldTiming.{HeldTiming}
use Rattle.standard_record.specs.Lists.{DetailedTimings}
use Rattle.standard_record.specs.declared.Limits.{Limits}
use Rattle.standard_record.specs.declared.SecondaryTiming.{SecondaryTiming}
use Rattle.standard_record.specs.declared.SecondaryTiming.TheVariants as Secondary
use Rattle.standard_record.specs.declared.Descriptor.{Descriptor}
use Rattle.standard_record.specs.declared.Descriptor.TheVariants.{Serial, Text, Range, Name, Undefined, MakerDefined}
use Rattle.standard_record.specs.declared.Held.{Held}
use Rattle.standard_record.specs.Lists.{Descriptors}
use Rattle.standard_slot_lines.specs.Lines.{line, sync, timing_fields, detailed_line, detailed_lines, secondary, range_fields, descriptor_fields, held_line, descriptor_lines}

sync_length : (t : Sync) → length (sync t) ≤ 8
unfolding sync flat
sync_length (AnalogComposite b l) = simp length-append (omega (arith, flag_length b, field8_length (line l)))
sync_length (BipolarAnalogComposite b l) = simp length-append (omega (arith, flag_length b, field8_length (line l)))
sync_length (DigitalComposite b p) = simp length-append (omega (arith, flag_length b, polarity_length p))
sync_length (DigitalSeparate h v) = simp length-append (omega (arith, polarity_length h, polarity_length v))

pub timing_length : (d : DetailedTiming) → length (timing_fields d) ≤ 105
unfolding timing_fields flat
timing_length d =
    simp length-append
    (omega (
      arith,
      axes_length d.clock d.across d.down,
      field16_length d.size.width,
      field16_length d.size.height,
      border_length d.border d.interlaced d.stereo,
      sync_length d.sync,
    ))

pub detailed_length : (h : HeldTiming) → length (detailed_line h) ≤ 112
unfolding detailed_line flat
detailed_length h = simp length-append (omega (arith, timing_length h.timing, field16_length h.slot))

pub detailed_lengths : (l : DetailedTimings) → length (detailed_lines l) ≤ 448
unfolding detailed_lines
detailed_lengths l = first_length detailed_line 112 4 detailed_length l.len l.items

secondary_length : (s : List ℕ) (t : SecondaryTiming) → length (secondary s t) ≤ 37
unfolding secondary flat
secondary_length s Secondary.None = omega arith
secondary_length s (Secondary.GTF start c m k j) =
    simp length-append (omega (arith, field32_length start, field8_length c, field16_length m, field8_length k, field8_length j))
secondary_length s (Secondary.Other kind d) = simp length-append (omega (arith, raw_length s kind d))

range_length : (s : List ℕ) (l : Limits) (t : SecondaryTiming) → length (range_fields s l t) ≤ 87
unfolding range_fields flat
range_length s l t =
    simp length-append
    (omega (arith, field16_length l.vmin, field16_length l.vmax, field32_length l.hmin, field32_length l.hmax, field32_length l.clock, secondary_length s t))

descriptor_length : (s : List ℕ) (t : Descriptor) → length (descriptor_fields s t) ≤ 87
unfolding descriptor_fields flat
descriptor_length s (Serial d) = omega (arith, text_fields_length (text "serial") d)
descriptor_length s (Text d) = omega (arith, text_fields_length (text "text") d)
descriptor_length s (Range l t) = range_length s l t
descriptor_length s (Name d) = omega (arith, text_fields_length (text "name") d)
descriptor_length s (Undefined tag d) = omega (arith, run_fields_length (text "undefined") s tag d)
descriptor_length s (MakerDefined tag d) = omega (arith, run_fields_length (text "maker") s tag d)

held_length : (s : List ℕ) (h : Held) → length (held_line s h) ≤ 94
unfolding held_line flat
held_length s h = simp length-append (omega (arith, descriptor_length s h.descriptor, field16_length h.slot))

pub descriptor_lengths : (s : List ℕ) (l : Descriptors) → length (descriptor_lines s l) ≤ 282
unfolding descriptor_lines
descriptor_lengths s l = first_length (held_line s) 94 3 (held_length s) l.len l.items
