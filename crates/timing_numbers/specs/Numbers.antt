-- A detailed timing as fourteen numbers.
use Rattle.std.specs.Prelude.{ℕ, List, [], ◌∷◌}
use Rattle.write_leaf.specs.Bytes.{digit}
use Rattle.timing.specs.declared.SyncPolarity.{SyncPolarity}
use Rattle.timing.specs.declared.SyncPolarity.TheVariants.{Positive, Negative}
use Rattle.standard_record.specs.declared.Sync.{Sync}
use Rattle.standard_record.specs.declared.Sync.TheVariants.{AnalogComposite, BipolarAnalogComposite, DigitalComposite, DigitalSeparate}
use Rattle.standard_record.specs.declared.DetailedTiming.{DetailedTiming}
use Rattle.shared_lines.specs.Lines.{stereo}
use Rattle.standard_slot_lines.specs.Lines.{line}
use Rattle.timing_numbers.specs.declared.SyncNumbers.{SyncNumbers}

abbrev pub polarity : SyncPolarity → ℕ
polarity Positive = 1
polarity Negative = 0

-- its kind, and two values
abbrev pub sync_numbers : Sync → SyncNumbers
sync_numbers (AnalogComposite serrated l) = record { kind = 0; first = digit serrated; second = line l }
sync_numbers (BipolarAnalogComposite serrated l) = record { kind = 1; first = digit serrated; second = line l }
sync_numbers (DigitalComposite serrated p) = record { kind = 2; first = digit serrated; second = polarity p }
sync_numbers (DigitalSeparate horizontal vertical) = record { kind = 3; first = polarity horizontal; second = polarity vertical }

-- in the order of its line in the listing, without its size, its border and its slot
abbrev pub numbers_of : DetailedTiming → List ℕ
numbers_of t =
    t.clock ∷
    t.across.active.0 ∷ t.down.active.0 ∷
    t.across.front.0 ∷ t.down.front.0 ∷
    t.across.sync.0 ∷ t.down.sync.0 ∷
    t.across.back.0 ∷ t.down.back.0 ∷
    digit t.interlaced ∷ stereo t.stereo ∷
    (sync_numbers t.sync).kind ∷ (sync_numbers t.sync).first ∷ (sync_numbers t.sync).second ∷ []
