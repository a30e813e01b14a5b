-- The fillers: what stands past a list's length, and the record beside a refusal.
use Rattle.std.specs.Prelude.{false, replicate, None}
use Rattle.timing.specs.Axis.{pixels, lines}
use Rattle.timing.specs.declared.StereoType.TheVariants as Stereo
use Rattle.standard_record.specs.declared.Chromaticity.{Chromaticity}
use Rattle.standard_record.specs.declared.HeldPoint.{HeldPoint}
use Rattle.standard_record.specs.declared.HeldPair.{HeldPair}
use Rattle.standard_record.specs.declared.HeldTiming.{HeldTiming}
use Rattle.standard_record.specs.declared.DetailedTiming.{DetailedTiming}
use Rattle.standard_record.specs.declared.Held.{Held}
use Rattle.standard_record.specs.declared.StandardRecord.{StandardRecord}
use Rattle.standard_record.specs.declared.Descriptor.TheVariants.{Name}
use Rattle.standard_record.specs.declared.Sync.TheVariants.{AnalogComposite}
use Rattle.standard_record.specs.declared.SyncLine.TheVariants.{Green}
use Rattle.standard_record.specs.declared.Week.TheVariants.{Made}
use Rattle.standard_record.specs.declared.VideoInput.TheVariants.{Digital}
use Rattle.standard_record.specs.declared.ImageSize.TheVariants as Size
use Rattle.standard_record.specs.declared.DisplayType.TheVariants.{Monochrome}
use Rattle.standard_record.specs.declared.Kind.TheVariants.{Typed}

abbrev blank_chromaticity : Chromaticity
blank_chromaticity = record { x = 0; y = 0 }

abbrev pub blank_white : HeldPoint
blank_white = record { point = record { index = 0; place = blank_chromaticity; gamma = None }; slot = 0 }

abbrev pub blank_standard : HeldPair
blank_standard = record { pair = record { width = 0; ratio = record { width = 0; height = 0 }; rate = 0 }; slot = 0 }

abbrev pub blank_timing : DetailedTiming
blank_timing = record {
  clock = 0;
  across = record { active = pixels 0; front = pixels 0; sync = pixels 0; back = pixels 0 };
  down = record { active = lines 0; front = lines 0; sync = lines 0; back = lines 0 };
  size = record { width = 0; height = 0 };
  border = record { across = pixels 0; down = lines 0 };
  interlaced = false;
  stereo = Stereo.None;
  sync = AnalogComposite false Green;
}

abbrev pub blank_detailed : HeldTiming
blank_detailed = record { timing = blank_timing; slot = 0 }

abbrev pub blank_held : Held
blank_held = record { descriptor = Name (record { start = 0; len = 0 }); slot = 0 }

unfoldable pub blank : StandardRecord
blank = record {
  product = record { maker = record { 0 = 0; 1 = 0; 2 = 0 }; code = 0; serial = 0; week = Made 0; year = 0 };
  version = record { version = 0; revision = 0 };
  display = record {
    input = Digital false;
    size = Size.None;
    gamma = None;
    features = record {
      standby = false;
      suspend = false;
      lowpower = false;
      kind = Typed Monochrome;
      srgb = false;
      preferred = false;
      gtf = false;
    };
  };
  color = record {
    basic = record { red = blank_chromaticity; green = blank_chromaticity; blue = blank_chromaticity; white = blank_chromaticity };
    points = record { items = replicate 6 blank_white; len = 0 };
  };
  timings = record {
    established = record { items = replicate 17 0; len = 0 };
    standard = record { items = replicate 26 blank_standard; len = 0 };
    detailed = record { items = replicate 4 blank_detailed; len = 0 };
  };
  descriptors = record { items = replicate 3 blank_held; len = 0 };
  extensions = 0;
}
