-- Worked lines: antt computes each definition to the text.
use Rattle.std.specs.Prelude.{true, false, [], ◌≡◌, refl}
use Rattle.page.specs.Words.{text, decimal_in, field32, field16, field8, flag, flat}
use Rattle.timing.specs.Axis.{pixels, lines}
use Rattle.timing.specs.declared.StereoType.TheVariants as Stereo
use Rattle.timing.specs.declared.SyncPolarity.TheVariants.{Positive, Negative}
use Rattle.standard_record.specs.declared.SyncLine.TheVariants.{RGB}
use Rattle.standard_record.specs.declared.Sync.TheVariants.{BipolarAnalogComposite, DigitalComposite, DigitalSeparate}
use Rattle.standard_record.specs.declared.SecondaryTiming.TheVariants.{GTF}
use Rattle.standard_record.specs.declared.Descriptor.TheVariants.{Range}
use Rattle.shared_lines.specs.Lines.{axes, border_to_stereo, polarity}
use Rattle.standard_slot_lines.specs.Lines.{sync, timing_fields, detailed_line, secondary, range_fields, descriptor_fields, held_line}

detailed : detailed_line (record {
  timing = record {
    clock = 40000000;
    across = record { active = pixels 800; front = pixels 40; sync = pixels 128; back = pixels 88 };
    down = record { active = lines 600; front = lines 1; sync = lines 4; back = lines 23 };
    size = record { width = 320; height = 180 };
    border = record { across = pixels 0; down = lines 0 };
    interlaced = false;
    stereo = Stereo.None;
    sync = DigitalSeparate Positive Positive;
  };
  slot = 1;
}) ≡ text "detailed 40000000 800 600 40 1 128 4 88 23 320 180 0 0 0 0 3 1 1 1\n"
unfolding detailed_line timing_fields axes border_to_stereo flat flag field32 field16 field8 decimal_in sync polarity
detailed = refl

bipolar : sync (BipolarAnalogComposite true RGB) ≡ text " 1 1 1"
unfolding sync flat flag field8 decimal_in
bipolar = refl

digital : sync (DigitalComposite false Negative) ≡ text " 2 0 0"
unfolding sync polarity flat flag
digital = refl

range : held_line [] (record {
  descriptor = Range (record { vmin = 50; vmax = 510; hmin = 30000; hmax = 510000; clock = 130000000 }) (GTF 80000 80 600 128 40);
  slot = 4;
}) ≡ text "range 50 510 30000 510000 130000000 gtf 80000 80 600 128 40 4\n"
unfolding held_line descriptor_fields range_fields secondary flat field8 field16 field32 decimal_in
range = refl
