-- The lines of the slots, detailed timings and descriptors: what each line is, byte for byte.
use Rattle.std.specs.Prelude.{ℕ, min, List, [], ◌∷◌, take}
use Rattle.page.specs.Words.{text, newline, field32, flag, float, flat, each}
use Rattle.shared_lines.specs.Lines.{axes, border_to_stereo, polarity, text_line, raw, raw_line, limits}
use Rattle.crate_record.specs.declared.SyncLine.TheVariants.{RGB, Green, Digital}
use Rattle.crate_record.specs.declared.SyncType.{SyncType}
use Rattle.crate_record.specs.declared.SyncType.TheVariants.{Composite, Separate}
use Rattle.crate_record.specs.declared.DetailedTiming.{DetailedTiming}
use Rattle.crate_record.specs.Lists.{DetailedTimings}
use Rattle.crate_record.specs.declared.Limits.{Limits}
use Rattle.crate_record.specs.declared.SecondaryTiming.{SecondaryTiming}
use Rattle.crate_record.specs.declared.SecondaryTiming.TheVariants as Secondary
use Rattle.crate_record.specs.declared.MonitorDescriptor.{MonitorDescriptor}
use Rattle.crate_record.specs.declared.MonitorDescriptor.TheVariants.{SerialNumber, OtherString, RangeLimits, MonitorName, Undefined, ManufacturerDefined}
use Rattle.crate_record.specs.Lists.{MonitorDescriptors}

-- ---- detailed timings

-- its kind, and two values
unfoldable pub sync : SyncType → List ℕ
sync (Composite serrated Green) = flat (text " 0" ∷ flag serrated ∷ text " 0" ∷ [])
sync (Composite serrated RGB) = flat (text " 0" ∷ flag serrated ∷ text " 1" ∷ [])
sync (Composite serrated (Digital p)) = flat (text " 1" ∷ flag serrated ∷ polarity p ∷ [])
sync (Separate horizontal vertical) = flat (text " 2" ∷ polarity horizontal ∷ polarity vertical ∷ [])

unfoldable pub detailed_line : DetailedTiming → List ℕ
detailed_line d = flat (
    axes d.clock d.across d.down ∷ float d.size.width ∷ float d.size.height ∷
    border_to_stereo d.border d.interlaced d.stereo ∷ sync d.sync ∷
    newline ∷ [])

-- a length above the list's size counts as that size
unfoldable pub detailed_lines : DetailedTimings → List ℕ
detailed_lines l = each detailed_line (take (min l.len 4) l.items)

-- ---- descriptors

unfoldable pub secondary : List ℕ → SecondaryTiming → List ℕ
secondary s Secondary.None = text " none"
secondary s (Secondary.GTF start c m k j) = flat (text " gtf" ∷ field32 start ∷ float c ∷ float m ∷ float k ∷ float j ∷ [])
secondary s (Secondary.Other kind d) = flat (text " other" ∷ raw s kind d ∷ [])

unfoldable pub range_line : List ℕ → Limits → SecondaryTiming → List ℕ
range_line s l t =
    flat (limits l.vmin l.vmax l.hmin l.hmax l.clock ∷ secondary s t ∷ newline ∷ [])

unfoldable pub descriptor_line : List ℕ → MonitorDescriptor → List ℕ
descriptor_line s (SerialNumber d) = text_line (text "serial") d
descriptor_line s (OtherString d) = text_line (text "text") d
descriptor_line s (RangeLimits l t) = range_line s l t
descriptor_line s (MonitorName d) = text_line (text "name") d
descriptor_line s (Undefined tag d) = raw_line (text "undefined") s tag d
descriptor_line s (ManufacturerDefined tag d) = raw_line (text "maker") s tag d

unfoldable pub descriptor_lines : List ℕ → MonitorDescriptors → List ℕ
descriptor_lines s l = each (descriptor_line s) (take (min l.len 3) l.items)
