-- The block's first 35 bytes, as the source reads them.
use Rattle.std.specs.Prelude.{ℕ, ◌+◌, ◌||◌, cond, eqb, Option, None, Some, Float}
use Rattle.bits.specs.Fields.{digits, bit, by_code}
use Rattle.steps.specs.Steps.{Steps, done, ◌>>=◌, ◌>>◌, ensure}
use Rattle.steps.specs.Leaves.{byte, word, long}
use Rattle.crate_record.specs.Single.{whole, gamma_of, coordinate, level_of}
use Rattle.crate_record.specs.declared.ManufacturerID.{ManufacturerID}
use Rattle.crate_record.specs.declared.ManufactureDate.{ManufactureDate}
use Rattle.crate_record.specs.declared.ProductInformation.{ProductInformation}
use Rattle.shared_record.specs.declared.Version.{Version}
use Rattle.crate_record.specs.declared.VideoInput.{VideoInput}
use Rattle.crate_record.specs.declared.VideoInput.TheVariants.{Analog, Digital}
use Rattle.crate_record.specs.declared.ImageSize.{ImageSize}
use Rattle.crate_record.specs.declared.DisplayType.{DisplayType}
use Rattle.crate_record.specs.declared.DisplayType.TheVariants.{Monochrome, RGBColor, OtherColor, Undefined}
use Rattle.crate_record.specs.declared.DPMSFeatures.{DPMSFeatures}
use Rattle.crate_record.specs.declared.DisplayParameters.{DisplayParameters}
use Rattle.crate_record.specs.declared.Chromaticities.{Chromaticities}
use Rattle.crate_head.specs.declared.Front.{Front}

unfoldable pub header : Steps Unit
header = do
  a ← long
  ensure (eqb a 0xffffff00) 2
  b ← long
  ensure (eqb b 0x00ffffff) 2
  done tt

-- ---- product

abbrev pub maker_of : ℕ → ManufacturerID
maker_of k = record { 0 = digits k 10 5; 1 = digits k 5 5; 2 = digits k 0 5 }

unfoldable pub maker : Steps ManufacturerID
maker = do
  k ← word
  done (maker_of k)

unfoldable pub date : Steps ManufactureDate
date = do
  week ← byte
  year ← byte
  done (record { week = week; year = year + 1990 })

unfoldable pub product : Steps ProductInformation
product = do
  m ← maker
  code ← word
  serial ← long
  d ← date
  done (record { maker = m; code = code; serial = serial; date = d })

unfoldable pub version : Steps Version
version = do
  v ← byte
  r ← byte
  done (record { version = v; revision = r })

-- ---- display

unfoldable pub input_of : ℕ → VideoInput
input_of val =
    cond (bit val 7)
    (Digital (bit val 0))
    (Analog (level_of (digits val 5 2)) (bit val 4)
    (record { serrated = bit val 3; green = bit val 2; composite = bit val 1; separate = bit val 0 }))

unfoldable pub input : Steps VideoInput
input = do
  val ← byte
  done (input_of val)

unfoldable pub size_of : ℕ → ℕ → Option ImageSize
size_of w h = cond (eqb w 0 || eqb h 0) None (Some (record { width = whole w; height = whole h }))

unfoldable pub gamma_from : ℕ → Option Float
gamma_from val = cond (eqb val 0xff) None (Some (gamma_of val))

abbrev pub kind_of : ℕ → DisplayType
kind_of code = by_code code Monochrome RGBColor OtherColor Undefined

unfoldable pub dpms_of : ℕ → DPMSFeatures
dpms_of val =
    record {
      standby = bit val 7;
      suspend = bit val 6;
      lowpower = bit val 5;
      kind = kind_of (digits val 3 2);
      srgb = bit val 2;
      preferred = bit val 1;
      gtf = bit val 0;
    }

unfoldable pub dpms : Steps DPMSFeatures
dpms = do
  val ← byte
  done (dpms_of val)

unfoldable pub display : Steps DisplayParameters
display = do
  i ← input
  w ← byte
  h ← byte
  g ← byte
  d ← dpms
  done (record { input = i; size = size_of w h; gamma = gamma_from g; dpms = d })

-- ---- color

unfoldable pub color : Steps Chromaticities
color = do
  rg ← byte
  bw ← byte
  rx ← byte
  ry ← byte
  gx ← byte
  gy ← byte
  bx ← byte
  by ← byte
  wx ← byte
  wy ← byte
  done (record {
    red = record { x = coordinate rx rg 6; y = coordinate ry rg 4 };
    green = record { x = coordinate gx rg 2; y = coordinate gy rg 0 };
    blue = record { x = coordinate bx bw 6; y = coordinate by bw 4 };
    white = record { x = coordinate wx bw 2; y = coordinate wy bw 0 };
  })

-- ---- all of it

unfoldable pub front : Steps Front
front = do
  header
  p ← product
  v ← version
  d ← display
  c ← color
  done (record { product = p; version = v; display = d; basic = c })
