-- The listing of the crate reading: what each line is, byte for byte, and their order.
use Rattle.std.specs.Prelude.{ℕ, min, List, [], ◌∷◌, take, Float, Option, Some, None, Result, Ok, Err}
use Rattle.page.specs.Words.{text, newline, field, field16, field8, float, flat, each}
use Rattle.shared_lines.specs.Lines.{product_numbers, version_line, input_flags, digital_line, dpms_line, established_line, extensions_line, refuse_line}
use Rattle.steps.specs.declared.Refusal.{Refusal}
use Rattle.crate_record.specs.declared.ProductInformation.{ProductInformation}
use Rattle.crate_record.specs.declared.VideoInput.{VideoInput}
use Rattle.crate_record.specs.declared.VideoInput.TheVariants.{Analog, Digital}
use Rattle.crate_record.specs.declared.ImageSize.{ImageSize}
use Rattle.crate_record.specs.declared.DisplayType.{DisplayType}
use Rattle.crate_record.specs.declared.DisplayType.TheVariants.{Monochrome, RGBColor, OtherColor, Undefined}
use Rattle.crate_record.specs.declared.DPMSFeatures.{DPMSFeatures}
use Rattle.crate_record.specs.declared.DisplayParameters.{DisplayParameters}
use Rattle.crate_record.specs.declared.Chromaticities.{Chromaticities}
use Rattle.crate_record.specs.declared.WhitePoint.{WhitePoint}
use Rattle.crate_record.specs.Lists.{WhitePoints}
use Rattle.crate_record.specs.declared.StandardTiming.{StandardTiming}
use Rattle.crate_record.specs.Lists.{StandardTimings}
use Rattle.crate_record.specs.declared.EDID.{EDID}
use Rattle.crate_record.specs.declared.Reading.{Reading}
use Rattle.crate_slot_lines.specs.Lines.{detailed_lines, descriptor_lines}

unfoldable pub product_line : ProductInformation → List ℕ
product_line p = flat (
    text "product" ∷
    field8 p.maker.0 ∷ field8 p.maker.1 ∷ field8 p.maker.2 ∷
    product_numbers p.code p.serial p.date.week p.date.year ∷ [])

-- ---- display

unfoldable pub input_line : VideoInput → List ℕ
input_line (Analog level setup sync) = flat (
    text "analog" ∷ float level.high ∷ float level.low ∷
    input_flags setup sync.serrated sync.green sync.composite sync.separate ∷ [])
input_line (Digital dfp) = digital_line dfp

unfoldable pub size_line : Option ImageSize → List ℕ
size_line None = text "size none\n"
size_line (Some s) = flat (text "size" ∷ float s.width ∷ float s.height ∷ newline ∷ [])

unfoldable pub gamma_line : Option Float → List ℕ
gamma_line None = text "gamma none\n"
gamma_line (Some g) = flat (text "gamma" ∷ float g ∷ newline ∷ [])

-- the source's order
abbrev pub kind : DisplayType → ℕ
kind Monochrome = 0
kind RGBColor = 1
kind OtherColor = 2
kind Undefined = 3

unfoldable pub features_line : DPMSFeatures → List ℕ
features_line f = dpms_line f.standby f.suspend f.lowpower (kind f.kind) f.srgb f.preferred f.gtf

unfoldable pub display_lines : DisplayParameters → List ℕ
display_lines d = flat (input_line d.input ∷ size_line d.size ∷ gamma_line d.gamma ∷ features_line d.dpms ∷ [])

-- ---- colour

unfoldable pub chroma_line : Chromaticities → List ℕ
chroma_line c = flat (
    text "chroma" ∷
    float c.red.x ∷ float c.red.y ∷ float c.green.x ∷ float c.green.y ∷
    float c.blue.x ∷ float c.blue.y ∷ float c.white.x ∷ float c.white.y ∷
    newline ∷ [])

unfoldable pub white_line : WhitePoint → List ℕ
white_line w = flat (text "white" ∷ field8 w.index ∷ float w.x ∷ float w.y ∷ float w.gamma ∷ newline ∷ [])

-- in this list and the others, a length above the list's size counts as that size
unfoldable pub white_lines : WhitePoints → List ℕ
white_lines l = each white_line (take (min l.len 6) l.items)

-- ---- timings

unfoldable pub standard_line : StandardTiming → List ℕ
standard_line t = flat (text "standard" ∷ field16 t.width ∷ float t.ratio ∷ field16 t.rate ∷ newline ∷ [])

unfoldable pub standard_lines : StandardTimings → List ℕ
standard_lines l = each standard_line (take (min l.len 26) l.items)

-- ---- the whole

unfoldable pub accept_line : ℕ → List ℕ
accept_line n = flat (text "accept" ∷ field n ∷ newline ∷ [])

-- of the input s
unfoldable pub edid_lines : List ℕ → EDID → List ℕ
edid_lines s e = flat (
    product_line e.product ∷
    version_line e.version.version e.version.revision ∷
    display_lines e.display ∷
    chroma_line e.color.basic ∷
    white_lines e.color.points ∷
    established_line e.timings.established.items e.timings.established.len ∷
    standard_lines e.timings.standard ∷
    detailed_lines e.timings.detailed ∷
    descriptor_lines s e.descriptors ∷
    extensions_line e.extensions ∷ [])

unfoldable pub ended_lines : List ℕ → EDID → Result ℕ Refusal → List ℕ
ended_lines s e (Ok n) = flat (accept_line n ∷ edid_lines s e ∷ [])
ended_lines s e (Err f) = refuse_line f

unfoldable pub listing_of : List ℕ → Reading → List ℕ
listing_of s r = ended_lines s r.edid r.end
