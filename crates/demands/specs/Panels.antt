-- What the standard reading makes of the specimen, and of six more blocks: one with an analog input and as many pairs as there can be, one
-- with a white point and ranges, one with two timings; and of any revision one with a ratio of code 0, one with other bytes from the week to the
-- features, and one with three ranges.
use Rattle.std.specs.Prelude.{ℕ, ◌*◌, true, false, List, [], ◌∷◌, ◌++◌, map, take, drop, Ok, None, Some}
use Rattle.fixed.specs.Fixed.{pad}
use Rattle.timing.specs.Axis.{pixels, lines}
use Rattle.timing.specs.declared.SyncPolarity.TheVariants.{Positive}
use Rattle.timing.specs.declared.StereoType.TheVariants as Stereo
use Rattle.standard_record.specs.Filler.{blank, blank_white, blank_standard, blank_detailed, blank_held}
use Rattle.standard_record.specs.Held.{held_point, held_pair, held_timing, held}
use Rattle.standard_record.specs.declared.Chromaticity.{Chromaticity}
use Rattle.standard_record.specs.declared.HeldPoint.{HeldPoint}
use Rattle.standard_record.specs.declared.StandardTiming.{StandardTiming}
use Rattle.standard_record.specs.declared.HeldPair.{HeldPair}
use Rattle.standard_record.specs.declared.DetailedTiming.{DetailedTiming}
use Rattle.standard_record.specs.declared.HeldTiming.{HeldTiming}
use Rattle.standard_record.specs.declared.Held.{Held}
use Rattle.standard_record.specs.declared.Descriptor.{Descriptor}
use Rattle.standard_record.specs.declared.Descriptor.TheVariants.{Name, Range, MakerDefined}
use Rattle.standard_record.specs.declared.SecondaryTiming.{SecondaryTiming}
use Rattle.standard_record.specs.declared.SecondaryTiming.TheVariants.{None, GTF}
use Rattle.standard_record.specs.declared.Sync.TheVariants.{DigitalSeparate}
use Rattle.standard_record.specs.declared.Limits.{Limits}
use Rattle.standard_record.specs.declared.Week.{Week}
use Rattle.standard_record.specs.declared.Week.TheVariants.{Made}
use Rattle.standard_record.specs.declared.Depth.TheVariants as Depth
use Rattle.standard_record.specs.declared.VideoInput.{VideoInput}
use Rattle.standard_record.specs.declared.VideoInput.TheVariants.{Analog, Digital, Interface}
use Rattle.standard_record.specs.declared.ImageSize.{ImageSize}
use Rattle.standard_record.specs.declared.ImageSize.TheVariants as Size
use Rattle.standard_record.specs.declared.DisplayType.TheVariants.{RGBColor}
use Rattle.standard_record.specs.declared.Kind.{Kind}
use Rattle.standard_record.specs.declared.Kind.TheVariants.{Typed, Encodings}
use Rattle.standard_record.specs.declared.StandardReading.{StandardReading}
use Rattle.standard_verdict.specs.Verdict.{refused_at}
use Rattle.demands.specs.Specimen.{specimen}

-- ---- the blocks

-- byte 20 makes the input analog; 26 pairs: 01 00, then 02 41, 03 82, ..
unfoldable pub full_block : List ℕ
full_block =
    let fa : List ℕ = 0x00 ∷ 0x00 ∷ 0x00 ∷ 0xfa ∷ 0x00 ∷ [] in
    take 20 specimen ++ (0x2d ∷ []) ++ drop 21 (take 38 specimen) ++ (
    0x01 ∷ 0x00 ∷ 0x02 ∷ 0x41 ∷ 0x03 ∷ 0x82 ∷ 0x04 ∷ 0xc3 ∷ 0x05 ∷ 0x04 ∷ 0x06 ∷ 0x45 ∷ 0x07 ∷ 0x86 ∷ 0x08 ∷ 0xc7 ∷ [])
    ++ drop 54 (take 72 specimen) ++ fa ++ (0x09 ∷ 0x08 ∷ 0x0a ∷ 0x49 ∷ 0x0b ∷ 0x8a ∷ 0x0c ∷ 0xcb ∷ 0x0d ∷ 0x0c ∷ 0x0e ∷ 0x4d ∷ 0x0a ∷ [])
    ++ fa ++ (0x0f ∷ 0x8e ∷ 0x10 ∷ 0xcf ∷ 0x11 ∷ 0x10 ∷ 0x12 ∷ 0x51 ∷ 0x13 ∷ 0x92 ∷ 0x14 ∷ 0xd3 ∷ 0x0a ∷ [])
    ++ fa ++ (0x15 ∷ 0x14 ∷ 0x16 ∷ 0x55 ∷ 0x17 ∷ 0x96 ∷ 0x18 ∷ 0xd7 ∷ 0x19 ∷ 0x18 ∷ 0x1a ∷ 0x59 ∷ 0x0a ∷ 0x00 ∷ 0x94 ∷ [])

-- a point of index 0 and one of index 2, a range with GTF, one without
unfoldable pub range_block : List ℕ
range_block =
    take 72 specimen ++ (
    0x00 ∷ 0x00 ∷ 0x00 ∷ 0xfb ∷ 0x00 ∷ 0x00 ∷ 0x05 ∷ 0x50 ∷ 0x54 ∷ 0x78 ∷ 0x02 ∷ 0x0a ∷ 0x50 ∷ 0x54 ∷ 0xff ∷ 0x0a ∷ 0x20 ∷ 0x20 ∷
    0x00 ∷ 0x00 ∷ 0x00 ∷ 0xfd ∷ 0x00 ∷ 0x38 ∷ 0x4b ∷ 0x1e ∷ 0x53 ∷ 0x0f ∷ 0x02 ∷ 0x00 ∷ 0x28 ∷ 0x50 ∷ 0x00 ∷ 0x00 ∷ 0x80 ∷ 0x28 ∷
    0x00 ∷ 0x00 ∷ 0x00 ∷ 0xfd ∷ 0x00 ∷ 0x38 ∷ 0x4b ∷ 0x1e ∷ 0x53 ∷ 0x0f ∷ 0x00 ∷ 0x0a ∷ 0x20 ∷ 0x20 ∷ 0x20 ∷ 0x20 ∷ 0x20 ∷ 0x20 ∷
    0x00 ∷ 0x20 ∷ [])

-- the first timing in the third slot too
unfoldable pub two_timings : List ℕ
two_timings = take 90 specimen ++ drop 54 (take 72 specimen) ++ drop 108 (take 127 specimen) ++ (0x51 ∷ [])

-- ratio code 0 in a pair before the slots, 81 00, and in one of an fa slot, d1 00
unfoldable pub ratio_block : ℕ → ℕ → List ℕ
ratio_block revision sum =
    take 19 specimen ++ (revision ∷ []) ++ drop 20 (take 39 specimen) ++ (0x00 ∷ []) ++ drop 40 (take 72 specimen) ++ (
    0x00 ∷ 0x00 ∷ 0x00 ∷ 0xfa ∷ 0x00 ∷ 0xd1 ∷ 0x00 ∷ 0x01 ∷ 0x01 ∷ 0x01 ∷ 0x01 ∷ 0x01 ∷ 0x01 ∷ 0x01 ∷ 0x01 ∷ 0x01 ∷ 0x01 ∷ 0x0a ∷ [])
    ++ drop 90 (take 127 specimen) ++ (sum ∷ [])

-- these bytes for the week, the revision, the input, the size and the features
unfoldable pub head_block : ℕ → ℕ → ℕ → ℕ → ℕ → ℕ → ℕ → List ℕ
head_block week revision input width height features sum =
    take 16 specimen ++ (week ∷ 0x1e ∷ 0x01 ∷ revision ∷ input ∷ width ∷ height ∷ 0x64 ∷ features ∷ []) ++ drop 25 (take 127 specimen) ++ (sum ∷ [])

-- an fd slot: the byte behind the tag, then those of the four rates; 150 MHz, and nothing behind it
abbrev pub fd_slot : ℕ → ℕ → ℕ → ℕ → ℕ → List ℕ
fd_slot offsets vmin vmax hmin hmax =
    0x00 ∷ 0x00 ∷ 0x00 ∷ 0xfd ∷ offsets ∷ vmin ∷ vmax ∷ hmin ∷ hmax ∷ 0x0f ∷ 0x00 ∷ 0x0a ∷ 0x20 ∷ 0x20 ∷ 0x20 ∷ 0x20 ∷ 0x20 ∷ 0x20 ∷ []

unfoldable pub limits_block : ℕ → List ℕ → List ℕ → List ℕ → ℕ → List ℕ
limits_block revision a b c sum = take 19 specimen ++ (revision ∷ []) ++ drop 20 (take 72 specimen) ++ a ++ b ++ c ++ (0x00 ∷ sum ∷ [])

-- ---- their records

-- what the revision has a say in
pub record Head : Type 0 where
  pub revision : ℕ
  pub week : Week
  pub input : VideoInput
  pub size : ImageSize
  pub kind : Kind

abbrev pub told : ℕ → Week → VideoInput → ImageSize → Kind → Head
told revision week input size kind = record { revision = revision; week = week; input = input; size = size; kind = kind }

-- the specimen's size, and a ratio in its place
abbrev pub specimen_size : ImageSize
specimen_size = Size.Some (record { width = 320; height = 180 })

abbrev pub shape : ℕ → ℕ → ImageSize
shape w h = Size.Ratio (record { width = w; height = h })

-- the input of byte 2d
abbrev pub analog : VideoInput
analog = Analog 1 false (record { serrated = true; green = true; composite = false; separate = true })

-- the specimen's, with this revision below 4 and this input
abbrev pub old : ℕ → VideoInput → Head
old revision input = told revision (Made 10) input specimen_size (Typed RGBColor)

-- from revision 4 on
abbrev pub new : ℕ → Head
new revision = told revision (Made 10) (Interface Depth.Undefined 1) specimen_size (Encodings true false)

-- a refusal, with the filler beside it
abbrev pub blank_beside : ℕ → ℕ → StandardReading
blank_beside n at = record { edid = blank; end = refused_at n at }

abbrev centre : Chromaticity
centre = record { x = 512; y = 256 }

-- the first timing, with so many active pixels
abbrev lobby_timing : ℕ → DetailedTiming
lobby_timing active = record {
  clock = 40000000;
  across = record { active = pixels active; front = pixels 40; sync = pixels 128; back = pixels 88 };
  down = record { active = lines 600; front = lines 1; sync = lines 4; back = lines 23 };
  size = record { width = 320; height = 180 };
  border = record { across = pixels 0; down = lines 0 };
  interlaced = false;
  stereo = Stereo.None;
  sync = DigitalSeparate Positive Positive;
}

-- the specimen's record with this head and these lists: an array and a length each
unfoldable pub showing : Head → List HeldTiming → ℕ → List HeldPoint → ℕ → List HeldPair → ℕ → List Held → ℕ → StandardReading
showing head timings timed points pointed standards listed entries entered =
    record {
      edid = record {
        product = record { maker = record { 0 = 0x41; 1 = 0x42; 2 = 0x43 }; code = 4660; serial = 1; week = head.week; year = 2020 };
        version = record { version = 1; revision = head.revision };
        display = record {
          input = head.input;
          size = head.size;
          gamma = Some 200;
          features = record {
            standby = false;
            suspend = false;
            lowpower = false;
            kind = head.kind;
            srgb = false;
            preferred = true;
            gtf = false;
          };
        };
        color = record {
          basic = record { red = centre; green = centre; blue = centre; white = centre };
          points = record { items = points; len = pointed };
        };
        timings = record {
          established = record { items = pad 17 0 (0 ∷ 11 ∷ 16 ∷ []); len = 3 };
          standard = record { items = standards; len = listed };
          detailed = record { items = timings; len = timed };
        };
        descriptors = record { items = entries; len = entered };
        extensions = 0;
      };
      end = Ok tt;
    }

abbrev mode : ℕ → ℕ → ℕ → ℕ → StandardTiming
mode width w h rate = record { width = width; ratio = record { width = w; height = h }; rate = rate }

-- one timing, in the first slot
abbrev one_timing : ℕ → List HeldTiming
one_timing active = pad 4 blank_detailed (held_timing.wrap 1 (lobby_timing active) ∷ [])

unfoldable pub specimen_shows : ℕ → StandardReading
specimen_shows active =
    showing (old 3 (Digital true)) (one_timing active) 1 (pad 6 blank_white []) 0 (pad 26 blank_standard (held_pair.wrap 0 (mode 1280 5 4 60) ∷ [])) 1 (
    held.wrap 2 (Name (record { start = 77; len = 5 })) ∷
    held.wrap 3 (MakerDefined 0 (record { start = 95; len = 13 })) ∷
    held.wrap 4 (MakerDefined 0 (record { start = 113; len = 13 })) ∷ []) 3

unfoldable pub full_shows : StandardReading
full_shows =
    showing (old 3 analog) (one_timing 800) 1 (pad 6 blank_white []) 0 (
    map (held_pair.wrap 0) (
    mode 256 16 10 60 ∷ mode 264 4 3 61 ∷ mode 272 5 4 62 ∷ mode 280 16 9 63 ∷ mode 288 16 10 64 ∷ mode 296 4 3 65 ∷
    mode 304 5 4 66 ∷ mode 312 16 9 67 ∷ [])
    ++ map (held_pair.wrap 2) (
    mode 320 16 10 68 ∷ mode 328 4 3 69 ∷ mode 336 5 4 70 ∷ mode 344 16 9 71 ∷ mode 352 16 10 72 ∷ mode 360 4 3 73 ∷ [])
    ++ map (held_pair.wrap 3) (
    mode 368 5 4 74 ∷ mode 376 16 9 75 ∷ mode 384 16 10 76 ∷ mode 392 4 3 77 ∷ mode 400 5 4 78 ∷ mode 408 16 9 79 ∷ [])
    ++ map (held_pair.wrap 4) (
    mode 416 16 10 80 ∷ mode 424 4 3 81 ∷ mode 432 5 4 82 ∷ mode 440 16 9 83 ∷ mode 448 16 10 84 ∷ mode 456 4 3 85 ∷ []))
    26 (pad 3 blank_held []) 0

-- 56 to 75 Hz, 30 to 83 kHz, 150 MHz
abbrev ranged : SecondaryTiming → Descriptor
ranged t = Range (record { vmin = 56; vmax = 75; hmin = 30000; hmax = 83000; clock = 150000000 }) t

unfoldable pub range_shows : StandardReading
range_shows =
    showing (old 3 (Digital true)) (one_timing 800) 1 (pad 6 blank_white (held_point.wrap 2 (record { index = 2; place = record { x = 322; y = 338 }; gamma = None }) ∷ [])) 1
    (pad 26 blank_standard (held_pair.wrap 0 (mode 1280 5 4 60) ∷ [])) 1
    (pad 3 blank_held (held.wrap 3 (ranged (GTF 80000 80 0 128 40)) ∷ held.wrap 4 (ranged None) ∷ [])) 2

unfoldable pub two_show : StandardReading
two_show =
    showing (old 3 (Digital true)) (pad 4 blank_detailed (held_timing.wrap 1 (lobby_timing 800) ∷ held_timing.wrap 3 (lobby_timing 800) ∷ [])) 2
    (pad 6 blank_white []) 0 (pad 26 blank_standard (held_pair.wrap 0 (mode 1280 5 4 60) ∷ [])) 1 (pad 3 blank_held (
    held.wrap 2 (Name (record { start = 77; len = 5 })) ∷
    held.wrap 4 (MakerDefined 0 (record { start = 113; len = 13 })) ∷ [])) 2

-- both pairs with this ratio
unfoldable pub ratio_shows : Head → ℕ → ℕ → StandardReading
ratio_shows head w h =
    showing head (one_timing 800) 1 (pad 6 blank_white []) 0
    (pad 26 blank_standard (held_pair.wrap 0 (mode 1280 w h 60) ∷ held_pair.wrap 2 (mode 1920 w h 60) ∷ [])) 2 (pad 3 blank_held (
    held.wrap 3 (MakerDefined 0 (record { start = 95; len = 13 })) ∷
    held.wrap 4 (MakerDefined 0 (record { start = 113; len = 13 })) ∷ [])) 2

-- the specimen's lists
unfoldable pub head_shows : Head → StandardReading
head_shows head =
    showing head (one_timing 800) 1 (pad 6 blank_white []) 0 (pad 26 blank_standard (held_pair.wrap 0 (mode 1280 5 4 60) ∷ [])) 1 (
    held.wrap 2 (Name (record { start = 77; len = 5 })) ∷
    held.wrap 3 (MakerDefined 0 (record { start = 95; len = 13 })) ∷
    held.wrap 4 (MakerDefined 0 (record { start = 113; len = 13 })) ∷ []) 3

-- the rates in Hz and in kHz
abbrev pub rates : ℕ → ℕ → ℕ → ℕ → Limits
rates vmin vmax hmin hmax = record { vmin = vmin; vmax = vmax; hmin = hmin * 1000; hmax = hmax * 1000; clock = 150000000 }

-- one range in each later slot
unfoldable pub limits_show : Head → Limits → Limits → Limits → StandardReading
limits_show head a b c =
    showing head (one_timing 800) 1 (pad 6 blank_white []) 0 (pad 26 blank_standard (held_pair.wrap 0 (mode 1280 5 4 60) ∷ [])) 1 (
    held.wrap 2 (Range a None) ∷ held.wrap 3 (Range b None) ∷ held.wrap 4 (Range c None) ∷ []) 3
