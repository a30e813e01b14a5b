-- The specimen, and what the crate reading makes of it.
use Rattle.std.specs.Prelude.{ℕ, true, false, List, [], ◌∷◌, Some}
use Rattle.std.specs.Float.{binary32}
use Rattle.std.specs.Float.Ieee.{of_bits}
use Rattle.timing.specs.Axis.{pixels, lines}
use Rattle.timing.specs.declared.SyncPolarity.TheVariants.{Positive}
use Rattle.timing.specs.declared.StereoType.TheVariants as Stereo
use Rattle.crate_record.specs.Seen.{holding}
use Rattle.crate_record.specs.declared.EDID.{EDID}
use Rattle.crate_record.specs.declared.StandardTiming.{StandardTiming}
use Rattle.crate_record.specs.declared.DetailedTiming.{DetailedTiming}
use Rattle.crate_record.specs.declared.Chromaticity.{Chromaticity}
use Rattle.crate_record.specs.declared.WhitePoint.{WhitePoint}
use Rattle.crate_record.specs.declared.MonitorDescriptor.{MonitorDescriptor}
use Rattle.crate_record.specs.declared.MonitorDescriptor.TheVariants.{MonitorName, ManufacturerDefined}
use Rattle.crate_record.specs.declared.SyncType.TheVariants.{Separate}
use Rattle.crate_record.specs.declared.VideoInput.TheVariants.{Digital}
use Rattle.crate_record.specs.declared.DisplayType.TheVariants.{RGBColor}

unfoldable pub specimen : List ℕ
specimen =
    0x00 ∷ 0xff ∷ 0xff ∷ 0xff ∷ 0xff ∷ 0xff ∷ 0xff ∷ 0x00 ∷ 0x04 ∷ 0x43 ∷ 0x34 ∷ 0x12 ∷ 0x01 ∷ 0x00 ∷ 0x00 ∷ 0x00 ∷
    0x0a ∷ 0x1e ∷ 0x01 ∷ 0x03 ∷ 0x81 ∷ 0x20 ∷ 0x12 ∷ 0x64 ∷ 0x0a ∷ 0x00 ∷ 0x00 ∷ 0x80 ∷ 0x40 ∷ 0x80 ∷ 0x40 ∷ 0x80 ∷
    0x40 ∷ 0x80 ∷ 0x40 ∷ 0x01 ∷ 0x08 ∷ 0x80 ∷ 0x81 ∷ 0x80 ∷ 0x01 ∷ 0x01 ∷ 0x01 ∷ 0x01 ∷ 0x01 ∷ 0x01 ∷ 0x01 ∷ 0x01 ∷
    0x01 ∷ 0x01 ∷ 0x01 ∷ 0x01 ∷ 0x01 ∷ 0x01 ∷ 0xa0 ∷ 0x0f ∷ 0x20 ∷ 0x00 ∷ 0x31 ∷ 0x58 ∷ 0x1c ∷ 0x20 ∷ 0x28 ∷ 0x80 ∷
    0x14 ∷ 0x00 ∷ 0x40 ∷ 0xb4 ∷ 0x10 ∷ 0x00 ∷ 0x00 ∷ 0x1e ∷ 0x00 ∷ 0x00 ∷ 0x00 ∷ 0xfc ∷ 0x00 ∷ 0x4c ∷ 0x4f ∷ 0x42 ∷
    0x42 ∷ 0x59 ∷ 0x0a ∷ 0x20 ∷ 0x20 ∷ 0x20 ∷ 0x20 ∷ 0x20 ∷ 0x20 ∷ 0x20 ∷ 0x00 ∷ 0x00 ∷ 0x00 ∷ 0x00 ∷ 0x00 ∷ 0x00 ∷
    0x00 ∷ 0x00 ∷ 0x00 ∷ 0x00 ∷ 0x00 ∷ 0x00 ∷ 0x00 ∷ 0x00 ∷ 0x00 ∷ 0x00 ∷ 0x00 ∷ 0x00 ∷ 0x00 ∷ 0x00 ∷ 0x00 ∷ 0x00 ∷
    0x00 ∷ 0x00 ∷ 0x00 ∷ 0x00 ∷ 0x00 ∷ 0x00 ∷ 0x00 ∷ 0x00 ∷ 0x00 ∷ 0x00 ∷ 0x00 ∷ 0x00 ∷ 0x00 ∷ 0x00 ∷ 0x00 ∷ 0xc3 ∷ []

-- 800 by 600, of which `front` and `back` are the horizontal porches
unfoldable pub lobby : ℕ → ℕ → DetailedTiming
lobby front back =
    record {
      clock = 40000000;
      across = record { active = pixels 800; front = pixels front; sync = pixels 128; back = pixels back };
      down = record { active = lines 600; front = lines 1; sync = lines 4; back = lines 23 };
      size = record { width = of_bits binary32 0x4200_0000; height = of_bits binary32 0x4190_0000 };
      border = record { across = pixels 0; down = lines 0 };
      interlaced = false;
      stereo = Stereo.None;
      sync = Separate Positive Positive;
    }

-- 0.5 and 0.25
abbrev half_quarter : Chromaticity
half_quarter = record { x = of_bits binary32 0x3f00_0000; y = of_bits binary32 0x3e80_0000 }

-- at 60 Hz, with the bits of its ratio
abbrev pub mode : ℕ → ℕ → StandardTiming
mode width ratio = record { ratio = of_bits binary32 ratio; width = width; rate = 60 }

-- the specimen's record, with this revision, these standard timings, this detailed timing, these white points and these descriptors
unfoldable pub specimen_of : ℕ → List StandardTiming → DetailedTiming → List WhitePoint → List MonitorDescriptor → EDID
specimen_of revision standard t points descriptors =
    holding (record {
      product = record {
        maker = record { 0 = 16; 1 = 24; 2 = 4 };
        code = 4660;
        serial = 1;
        date = record { week = 10; year = 2020 };
      };
      version = record { version = 1; revision = revision };
      display = record {
        input = Digital true;
        size = Some (record { width = of_bits binary32 0x4200_0000; height = of_bits binary32 0x4190_0000 });
        gamma = Some (of_bits binary32 0x4000_0000);
        dpms = record {
          standby = false;
          suspend = false;
          lowpower = false;
          kind = RGBColor;
          srgb = false;
          preferred = true;
          gtf = false;
        };
      };
      basic = record { red = half_quarter; green = half_quarter; blue = half_quarter; white = half_quarter };
      points = points;
      established = 0 ∷ 11 ∷ 16 ∷ [];
      standard = standard;
      detailed = t ∷ [];
      descriptors = descriptors;
      extensions = 0;
    })

-- with its own revision and pair, of 5/4
abbrev pub specimen_with : DetailedTiming → List WhitePoint → List MonitorDescriptor → EDID
specimen_with = specimen_of 3 (mode 1280 0x3fa0_0000 ∷ [])

-- its name, and two empty descriptors
unfoldable pub named : List MonitorDescriptor
named =
    MonitorName (record { start = 77; len = 5 }) ∷
    ManufacturerDefined 0 (record { start = 95; len = 13 }) ∷
    ManufacturerDefined 0 (record { start = 113; len = 13 }) ∷ []
