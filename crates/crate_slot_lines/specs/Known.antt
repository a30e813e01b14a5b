-- Worked lines: antt computes each definition to the text.
use Rattle.std.specs.Prelude.{true, false, [], ◌≡◌, refl}
use Rattle.std.specs.Float.{binary32}
use Rattle.std.specs.Float.Ieee.{of_bits, to_bits}
use Rattle.page.specs.Words.{text, decimal_in, field32, field16, field8, flag, hex_digit, hex_of2, hex_of4, hex_of8, float, flat}
use Rattle.timing.specs.Axis.{pixels, lines}
use Rattle.timing.specs.declared.StereoType.TheVariants as Stereo
use Rattle.timing.specs.declared.SyncPolarity.TheVariants.{Positive, Negative}
use Rattle.crate_record.specs.declared.SyncLine.TheVariants.{RGB, Digital}
use Rattle.crate_record.specs.declared.SyncType.TheVariants.{Composite, Separate}
use Rattle.crate_record.specs.declared.SecondaryTiming.TheVariants as Secondary
use Rattle.crate_record.specs.declared.MonitorDescriptor.TheVariants.{RangeLimits}
use Rattle.shared_lines.specs.Lines.{axes, border_to_stereo, polarity, limits}
use Rattle.crate_slot_lines.specs.Lines.{sync, detailed_line, secondary, range_line, descriptor_line}

detailed : detailed_line (record {
  clock = 40000000;
  across = record { active = pixels 800; front = pixels 40; sync = pixels 128; back = pixels 88 };
  down = record { active = lines 600; front = lines 1; sync = lines 4; back = lines 23 };
  size = record { width = of_bits binary32 0x4200_0000; height = of_bits binary32 0x4190_0000 };
  border = record { across = pixels 0; down = lines 0 };
  interlaced = false;
  stereo = Stereo.None;
  sync = Separate Positive Positive;
}) ≡ text "detailed 40000000 800 600 40 1 128 4 88 23 42000000 41900000 0 0 0 0 2 1 1\n"
unfolding detailed_line axes border_to_stereo flat float flag field32 field16 field8 decimal_in hex_of8 hex_of4 hex_of2 hex_digit of_bits to_bits sync polarity
detailed = refl

on_rgb : sync (Composite true RGB) ≡ text " 0 1 1"
unfolding sync flat flag
on_rgb = refl

digital : sync (Composite false (Digital Negative)) ≡ text " 1 0 0"
unfolding sync polarity flat flag
digital = refl

range : descriptor_line [] (RangeLimits (record { vmin = 50; vmax = 75; hmin = 30000; hmax = 80000; clock = 130000000 }) Secondary.None)
    ≡ text "range 50 75 30000 80000 130000000 none\n"
unfolding descriptor_line range_line limits secondary flat field8 field32 decimal_in
range = refl
