-- How long the lines of the slots can be.
use Rattle.std.specs.Prelude.{ℕ, ◌≤◌, List, length}
use Rattle.std.proofs.Common.{arith, length-append}
use Rattle.page.specs.Words.{text, flat}
use Rattle.page.specs.Short.{field32_length, flag_length, float_length, first_length}
use Rattle.shared_lines.specs.Short.{axes_length, border_length, polarity_length, text_length_lem, raw_length, run_length, limits_length}
use Rattle.crate_record.specs.declared.SyncLine.TheVariants.{RGB, Green, Digital}
use Rattle.crate_record.specs.declared.SyncType.{SyncType}
use Rattle.crate_record.specs.declared.SyncType.TheVariants.{Composite, Separate}
use Rattle.crate_record.specs.declared.DetailedTiming.{DetailedTiming}
use Rattle.crate_record.specs.Lists.{DetailedTimings}
use Rattle.crate_record.specs.declared.Limits.{Limits}
use Rattle.crate_record.specs.declared.SecondaryTiming.{SecondaryTiming}
use Rattle.crate_record.specs.declared.SecondaryTiming.TheVariants as Secondary
use Rattle.crate_record.specs.declared.MonitorDescriptor.{MonitorDescriptor}
use Rattle.crate_record.specs.declared.MonitorDescriptor.TheVariants.{SerialNumber, OtherString, RangeLimits, MonitorName, Undefined, ManufacturerDefined}
use Rattle.crate_record.specs.Lists.{MonitorDescriptors}
use Rattle.crate_slot_lines.specs.Lines.{sync, detailed_line, detailed_lines, secondary, range_line, descriptor_line, descriptor_lines}

sync_length : (t : SyncType) → length (sync t) ≤ 6
unfolding sync flat
sync_length (Composite b Green) = simp length-append (omega (arith, flag_length b))
sync_length (Composite b RGB) = simp length-append (omega (arith, flag_length b))
sync_length (Composite b (Digital p)) = simp length-append (omega (arith, flag_length b, polarity_length p))
sync_length (Separate h v) = simp length-append (omega (arith, polarity_length h, polarity_length v))

detailed_length : (d : DetailedTiming) → length (detailed_line d) ≤ 110
unfolding detailed_line flat
detailed_length d =
    simp length-append
    (omega (
      arith,
      axes_length d.clock d.across d.down,
      float_length d.size.width,
      float_length d.size.height,
      border_length d.border d.interlaced d.stereo,
      sync_length d.sync,
    ))

pub detailed_lengths : (l : DetailedTimings) → length (detailed_lines l) ≤ 440
unfolding detailed_lines
detailed_lengths l = first_length detailed_line 110 4 detailed_length l.len l.items

secondary_length : (s : List ℕ) (t : SecondaryTiming) → length (secondary s t) ≤ 51
unfolding secondary flat
secondary_length s Secondary.None = omega arith
secondary_length s (Secondary.GTF start c m k j) =
    simp length-append (omega (arith, field32_length start, float_length c, float_length m, float_length k, float_length j))
secondary_length s (Secondary.Other kind d) = simp length-append (omega (arith, raw_length s kind d))

range_length : (s : List ℕ) (l : Limits) (t : SecondaryTiming) → length (range_line s l t) ≤ 98
unfolding range_line flat
range_length s l t =
    simp length-append
    (omega (arith, limits_length l.vmin l.vmax l.hmin l.hmax l.clock, secondary_length s t))

descriptor_length : (s : List ℕ) (t : MonitorDescriptor) → length (descriptor_line s t) ≤ 98
unfolding descriptor_line flat
descriptor_length s (SerialNumber d) = omega (arith, text_length_lem (text "serial") d)
descriptor_length s (OtherString d) = omega (arith, text_length_lem (text "text") d)
descriptor_length s (RangeLimits l t) = range_length s l t
descriptor_length s (MonitorName d) = omega (arith, text_length_lem (text "name") d)
descriptor_length s (Undefined tag d) = omega (arith, run_length (text "undefined") s tag d)
descriptor_length s (ManufacturerDefined tag d) = omega (arith, run_length (text "maker") s tag d)

pub descriptor_lengths : (s : List ℕ) (l : MonitorDescriptors) → length (descriptor_lines s l) ≤ 294
unfolding descriptor_lines
descriptor_lengths s l = first_length (descriptor_line s) 98 3 (descriptor_length s) l.len l.items
