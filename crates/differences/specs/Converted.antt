-- What is no difference: the standard record in the crate record's terms, field by field, but for the maker. The numbers of the slots are left out,
-- which the crate record does not have, and so is which of two kinds an analog composite sync is. What revision 4 brought is carried back to what the crate
-- reading has in its place.
use Rattle.std.specs.Prelude.{ℕ, true, false, map, Float, None, Option, Some}
use Rattle.std.specs.Float.{binary32}
use Rattle.std.specs.Float.Ieee.{div}
use Rattle.bits.specs.Fields.{bit, by_code}
use Rattle.timing.specs.declared.Size.{Size}
use Rattle.crate_record.specs.Single.{f0, f1, f2, f10, f100, f1024, f0·7, f0·3, f0·714, f0·286, f0·4, whole}
use Rattle.crate_record.specs.Seen.{Seen as CrateSeen}
use Rattle.crate_record.specs.declared.ManufacturerID.{ManufacturerID}
use Rattle.crate_record.specs.declared.ProductInformation.{ProductInformation}
use Rattle.crate_record.specs.declared.SignalLevel.{SignalLevel}
use Rattle.crate_record.specs.declared.VideoInput.{VideoInput as CrateInput}
use Rattle.crate_record.specs.declared.ImageSize.{ImageSize as CrateSize}
use Rattle.crate_record.specs.declared.DisplayType.{DisplayType as CrateType}
use Rattle.crate_record.specs.declared.DPMSFeatures.{DPMSFeatures}
use Rattle.crate_record.specs.declared.DisplayParameters.{DisplayParameters}
use Rattle.crate_record.specs.declared.Chromaticity.{Chromaticity as CrateChromaticity}
use Rattle.crate_record.specs.declared.Chromaticities.{Chromaticities as CrateChromaticities}
use Rattle.crate_record.specs.declared.WhitePoint.{WhitePoint as CratePoint}
use Rattle.crate_record.specs.declared.StandardTiming.{StandardTiming as CratePair}
use Rattle.crate_record.specs.declared.SyncLine.{SyncLine as CrateLine}
use Rattle.crate_record.specs.declared.SyncType.{SyncType}
use Rattle.crate_record.specs.declared.DetailedTiming.{DetailedTiming as CrateTiming}
use Rattle.crate_record.specs.declared.Limits.{Limits as CrateLimits}
use Rattle.crate_record.specs.declared.SecondaryTiming.{SecondaryTiming as CrateSecond}
use Rattle.crate_record.specs.declared.MonitorDescriptor.{MonitorDescriptor}
use Rattle.standard_record.specs.Seen.{Seen}
use Rattle.standard_record.specs.declared.Week.{Week}
use Rattle.standard_record.specs.declared.Product.{Product}
use Rattle.standard_record.specs.declared.VideoInput.{VideoInput}
use Rattle.standard_record.specs.declared.ImageSize.{ImageSize}
use Rattle.standard_record.specs.declared.DisplayType.{DisplayType}
use Rattle.standard_record.specs.declared.Kind.{Kind}
use Rattle.standard_record.specs.declared.Features.{Features}
use Rattle.standard_record.specs.declared.Display.{Display}
use Rattle.standard_record.specs.declared.Chromaticity.{Chromaticity}
use Rattle.standard_record.specs.declared.Chromaticities.{Chromaticities}
use Rattle.standard_record.specs.declared.WhitePoint.{WhitePoint}
use Rattle.standard_record.specs.declared.Ratio.{Ratio}
use Rattle.standard_record.specs.declared.StandardTiming.{StandardTiming}
use Rattle.standard_record.specs.declared.SyncLine.{SyncLine}
use Rattle.standard_record.specs.declared.Sync.{Sync}
use Rattle.standard_record.specs.declared.DetailedTiming.{DetailedTiming}
use Rattle.standard_record.specs.declared.Limits.{Limits}
use Rattle.standard_record.specs.declared.SecondaryTiming.{SecondaryTiming}
use Rattle.standard_record.specs.declared.Descriptor.{Descriptor}

-- ---- whole numbers to f32

-- n / d, in f32
abbrev pub over : ℕ → Float → Float
over n d = div binary32 (whole n) d

-- millimetres to centimetres
abbrev pub cm_from : Size → CrateSize
cm_from mm = record { width = over mm.width f10; height = over mm.height f10 }

-- 1/1024ths to a number
abbrev pub chromaticity_from : Chromaticity → CrateChromaticity
chromaticity_from p = record { x = over p.x f1024; y = over p.y f1024 }

-- hundredths to a number
abbrev pub gamma_from : Option ℕ → Option Float
gamma_from None = None
gamma_from (Some n) = Some (over n f100)

-- width to height
abbrev pub ratio_from : Ratio → Float
ratio_from r = over r.width (whole r.height)

-- ---- the head

abbrev pub week_from : Week → ℕ
week_from (Week.Made week) = week
week_from Week.ModelYear = 255

abbrev pub product_from : ManufacturerID → Product → ProductInformation
product_from maker p = record { maker = maker; code = p.code; serial = p.serial; date = record { week = week_from p.week; year = p.year } }

-- the code of the levels to volts, high and low
abbrev pub level_from : ℕ → SignalLevel
level_from code =
    by_code code
    (record { high = f0·7; low = f0·3 })
    (record { high = f0·714; low = f0·286 })
    (record { high = f1; low = f0·4 })
    (record { high = f0·7; low = f0 })

abbrev pub input_from : VideoInput → CrateInput
input_from (VideoInput.Analog level setup sync) = CrateInput.Analog (level_from level) setup sync
input_from (VideoInput.Digital dfp) = CrateInput.Digital dfp
input_from (VideoInput.Interface depth code) = CrateInput.Digital (bit code 0)

abbrev pub size_from : ImageSize → Option CrateSize
size_from ImageSize.None = None
size_from (ImageSize.Some mm) = Some (cm_from mm)
size_from (ImageSize.Ratio r) = None

abbrev pub type_from : DisplayType → CrateType
type_from DisplayType.Monochrome = CrateType.Monochrome
type_from DisplayType.RGBColor = CrateType.RGBColor
type_from DisplayType.OtherColor = CrateType.OtherColor
type_from DisplayType.Undefined = CrateType.Undefined

-- encodings by their code
abbrev pub kind_from : Kind → CrateType
kind_from (Kind.Typed t) = type_from t
kind_from (Kind.Encodings false false) = CrateType.Monochrome
kind_from (Kind.Encodings true false) = CrateType.RGBColor
kind_from (Kind.Encodings false true) = CrateType.OtherColor
kind_from (Kind.Encodings true true) = CrateType.Undefined

abbrev pub features_from : Features → DPMSFeatures
features_from f = record {
  standby = f.standby;
  suspend = f.suspend;
  lowpower = f.lowpower;
  kind = kind_from f.kind;
  srgb = f.srgb;
  preferred = f.preferred;
  gtf = f.gtf;
}

abbrev pub display_from : Display → DisplayParameters
display_from d = record { input = input_from d.input; size = size_from d.size; gamma = gamma_from d.gamma; dpms = features_from d.features }

abbrev pub colors_from : Chromaticities → CrateChromaticities
colors_from c = record {
  red = chromaticity_from c.red;
  green = chromaticity_from c.green;
  blue = chromaticity_from c.blue;
  white = chromaticity_from c.white;
}

-- ---- the entries of the lists

-- the crate record has no word for a gamma that is not given; 0 is the gamma of no byte (`never-that-gamma`)
abbrev pub point_gamma : Option ℕ → Float
point_gamma None = f0
point_gamma (Some n) = over n f100

abbrev pub point_from : WhitePoint → CratePoint
point_from p = record { index = p.index; x = over p.place.x f1024; y = over p.place.y f1024; gamma = point_gamma p.gamma }

abbrev pub pair_from : StandardTiming → CratePair
pair_from p = record { ratio = ratio_from p.ratio; width = p.width; rate = p.rate }

abbrev pub line_from : SyncLine → CrateLine
line_from SyncLine.Green = CrateLine.Green
line_from SyncLine.RGB = CrateLine.RGB

abbrev pub sync_from : Sync → SyncType
sync_from (Sync.AnalogComposite serrated line) = SyncType.Composite serrated (line_from line)
sync_from (Sync.BipolarAnalogComposite serrated line) = SyncType.Composite serrated (line_from line)
sync_from (Sync.DigitalComposite serrated polarity) = SyncType.Composite serrated (CrateLine.Digital polarity)
sync_from (Sync.DigitalSeparate horizontal vertical) = SyncType.Separate horizontal vertical

abbrev pub timing_from : DetailedTiming → CrateTiming
timing_from t = record {
  clock = t.clock;
  across = t.across;
  down = t.down;
  size = cm_from t.size;
  border = t.border;
  interlaced = t.interlaced;
  stereo = t.stereo;
  sync = sync_from t.sync;
}

abbrev pub limits_from : Limits → CrateLimits
limits_from l = record { vmin = l.vmin; vmax = l.vmax; hmin = l.hmin; hmax = l.hmax; clock = l.clock }

-- c and j are stored as twice their value
abbrev pub second_from : SecondaryTiming → CrateSecond
second_from SecondaryTiming.None = CrateSecond.None
second_from (SecondaryTiming.GTF start c m k j) = CrateSecond.GTF start (over c f2) (whole m) (whole k) (over j f2)
second_from (SecondaryTiming.Other kind run) = CrateSecond.Other kind run

abbrev pub descriptor_from : Descriptor → MonitorDescriptor
descriptor_from (Descriptor.Serial t) = MonitorDescriptor.SerialNumber t
descriptor_from (Descriptor.Text t) = MonitorDescriptor.OtherString t
descriptor_from (Descriptor.Name t) = MonitorDescriptor.MonitorName t
descriptor_from (Descriptor.Range limits second) = MonitorDescriptor.RangeLimits (limits_from limits) (second_from second)
descriptor_from (Descriptor.Undefined tag run) = MonitorDescriptor.Undefined tag run
descriptor_from (Descriptor.MakerDefined tag run) = MonitorDescriptor.ManufacturerDefined tag run

-- ---- the record, with this maker: what it shows

unfoldable pub converted : ManufacturerID → Seen → CrateSeen
converted maker r = record {
  product = product_from maker r.product;
  version = r.version;
  display = display_from r.display;
  basic = colors_from r.basic;
  points = map (λ h. point_from h.point) r.points;
  established = r.established;
  standard = map (λ h. pair_from h.pair) r.standard;
  detailed = map (λ h. timing_from h.timing) r.detailed;
  descriptors = map (λ h. descriptor_from h.descriptor) r.descriptors;
  extensions = r.extensions;
}
