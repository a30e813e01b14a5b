-- The fillers: what stands past a list's length, and the record beside a refusal.
use Rattle.std.specs.Prelude.{false, replicate, None}
use Rattle.timing.specs.Axis.{pixels, lines}
use Rattle.timing.specs.declared.StereoType.TheVariants as Stereo
use Rattle.crate_record.specs.Single.{f0}
use Rattle.crate_record.specs.declared.WhitePoint.{WhitePoint}
use Rattle.crate_record.specs.declared.StandardTiming.{StandardTiming}
use Rattle.crate_record.specs.declared.DetailedTiming.{DetailedTiming}
use Rattle.crate_record.specs.declared.Chromaticity.{Chromaticity}
use Rattle.crate_record.specs.declared.MonitorDescriptor.{MonitorDescriptor}
use Rattle.crate_record.specs.declared.EDID.{EDID}
use Rattle.crate_record.specs.declared.MonitorDescriptor.TheVariants.{MonitorName}
use Rattle.crate_record.specs.declared.SyncType.TheVariants.{Composite}
use Rattle.crate_record.specs.declared.SyncLine.TheVariants.{Green}
use Rattle.crate_record.specs.declared.VideoInput.TheVariants.{Digital}
use Rattle.crate_record.specs.declared.DisplayType.TheVariants.{Monochrome}

abbrev pub blank_white : WhitePoint
blank_white = record { index = 0; x = f0; y = f0; gamma = f0 }

abbrev pub blank_standard : StandardTiming
blank_standard = record { ratio = f0; width = 0; rate = 0 }

abbrev pub blank_detailed : DetailedTiming
blank_detailed = record {
  clock = 0;
  across = record { active = pixels 0; front = pixels 0; sync = pixels 0; back = pixels 0 };
  down = record { active = lines 0; front = lines 0; sync = lines 0; back = lines 0 };
  size = record { width = f0; height = f0 };
  border = record { across = pixels 0; down = lines 0 };
  interlaced = false;
  stereo = Stereo.None;
  sync = Composite false Green;
}

abbrev pub blank_descriptor : MonitorDescriptor
blank_descriptor = MonitorName (record { start = 0; len = 0 })

abbrev blank_chromaticity : Chromaticity
blank_chromaticity = record { x = f0; y = f0 }

unfoldable pub blank : EDID
blank = record {
  product = record { maker = record { 0 = 0; 1 = 0; 2 = 0 }; code = 0; serial = 0; date = record { week = 0; year = 0 } };
  version = record { version = 0; revision = 0 };
  display = record {
    input = Digital false;
    size = None;
    gamma = None;
    dpms = record {
      standby = false;
      suspend = false;
      lowpower = false;
      kind = Monochrome;
      srgb = false;
      preferred = false;
      gtf = false;
    };
  };
  color = record {
    basic = record { red = blank_chromaticity; green = blank_chromaticity; blue = blank_chromaticity; white = blank_chromaticity };
    points = record { items = replicate 6 blank_white; len = 0 };
  };
  timings = record {
    established = record { items = replicate 17 0; len = 0 };
    standard = record { items = replicate 26 blank_standard; len = 0 };
    detailed = record { items = replicate 4 blank_detailed; len = 0 };
  };
  descriptors = record { items = replicate 3 blank_descriptor; len = 0 };
  extensions = 0;
}
