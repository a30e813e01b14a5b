-- The listing of the standard reading: what each line is, byte for byte, and their order.
use Rattle.std.specs.Prelude.{ℕ, min, Bool, true, false, cond, List, [], ◌∷◌, ◌++◌, eqb, take, Ok, Err, None, Option, Some}
use Rattle.page.specs.Words.{text, space, newline, field32, field16, field8, flag, flat, each}
use Rattle.shared_lines.specs.Lines.{product_numbers, version_line, input_flags, digital_line, dpms_line, established_line, extensions_line, refuse_line}
use Rattle.standard_slot_lines.specs.Lines.{detailed_lines, descriptor_lines}
use Rattle.standard_record.specs.declared.Product.{Product}
use Rattle.standard_record.specs.declared.Week.{Week}
use Rattle.standard_record.specs.declared.Week.TheVariants.{Made, ModelYear}
use Rattle.standard_record.specs.declared.Depth.{Depth}
use Rattle.standard_record.specs.declared.VideoInput.{VideoInput}
use Rattle.standard_record.specs.declared.VideoInput.TheVariants.{Analog, Digital, Interface}
use Rattle.standard_record.specs.declared.ImageSize.{ImageSize}
use Rattle.standard_record.specs.declared.ImageSize.TheVariants as Size
use Rattle.standard_record.specs.declared.DisplayType.{DisplayType}
use Rattle.standard_record.specs.declared.DisplayType.TheVariants.{Monochrome, RGBColor, OtherColor, Undefined}
use Rattle.standard_record.specs.declared.Kind.{Kind}
use Rattle.standard_record.specs.declared.Kind.TheVariants.{Typed, Encodings}
use Rattle.standard_record.specs.declared.Features.{Features}
use Rattle.standard_record.specs.declared.Display.{Display}
use Rattle.standard_record.specs.declared.Chromaticities.{Chromaticities}
use Rattle.standard_record.specs.declared.HeldPoint.{HeldPoint}
use Rattle.standard_record.specs.Lists.{WhitePoints}
use Rattle.standard_record.specs.declared.HeldPair.{HeldPair}
use Rattle.standard_record.specs.Lists.{StandardTimings}
use Rattle.standard_record.specs.declared.StandardRecord.{StandardRecord}
use Rattle.standard_record.specs.Verdict.{Verdict}
use Rattle.standard_record.specs.declared.StandardReading.{StandardReading}

-- the letter itself, or 0
unfoldable pub letter : ℕ → List ℕ
letter b = cond (eqb b 0) (text " 0") (space ++ (b ∷ []))

-- what follows the maker; without a week the year is the model's
unfoldable pub numbers : ℕ → ℕ → Week → ℕ → List ℕ
numbers code serial (Made week) year = product_numbers code serial week year
numbers code serial ModelYear year = flat (field16 code ∷ field32 serial ∷ text " model" ∷ field16 year ∷ newline ∷ [])

unfoldable pub product_line : Product → List ℕ
product_line p = flat (
    text "product" ∷ letter p.maker.0 ∷ letter p.maker.1 ∷ letter p.maker.2 ∷
    numbers p.code p.serial p.week p.year ∷ [])

-- ---- display

unfoldable pub depth : Depth → List ℕ
depth Depth.Undefined = text " undefined"
depth (Depth.Bits n) = field8 n
depth Depth.Reserved = text " reserved"

unfoldable pub input_line : VideoInput → List ℕ
input_line (Analog level setup sync) = flat (
    text "analog" ∷ field8 level ∷
    input_flags setup sync.serrated sync.green sync.composite sync.separate ∷ [])
input_line (Digital dfp) = digital_line dfp
input_line (Interface d code) = flat (text "digital" ∷ depth d ∷ field8 code ∷ newline ∷ [])

unfoldable pub size_line : ImageSize → List ℕ
size_line Size.None = text "size none\n"
size_line (Size.Some s) = flat (text "size" ∷ field16 s.width ∷ field16 s.height ∷ newline ∷ [])
size_line (Size.Ratio r) = flat (text "size ratio" ∷ field16 r.width ∷ field16 r.height ∷ newline ∷ [])

unfoldable pub gamma : Option ℕ → List ℕ
gamma None = text " none"
gamma (Some g) = field16 g

unfoldable pub gamma_line : Option ℕ → List ℕ
gamma_line t = flat (text "gamma" ∷ gamma t ∷ newline ∷ [])

-- the stored code
abbrev pub kind : DisplayType → ℕ
kind Monochrome = 0
kind RGBColor = 1
kind OtherColor = 2
kind Undefined = 3

-- with an e before it
unfoldable pub encodings : Bool → Bool → List ℕ
encodings false false = text " e0"
encodings true false = text " e1"
encodings false true = text " e2"
encodings true true = text " e3"

-- by the kind of f
unfoldable pub features_by : Kind → Features → List ℕ
features_by (Typed t) f = dpms_line f.standby f.suspend f.lowpower (kind t) f.srgb f.preferred f.gtf
features_by (Encodings ycrcb444 ycrcb422) f = flat (
    text "dpms" ∷ flag f.standby ∷ flag f.suspend ∷ flag f.lowpower ∷
    encodings ycrcb444 ycrcb422 ∷ flag f.srgb ∷ flag f.preferred ∷ flag f.gtf ∷
    newline ∷ [])

unfoldable pub features_line : Features → List ℕ
features_line f = features_by f.kind f

unfoldable pub display_lines : Display → List ℕ
display_lines d = flat (input_line d.input ∷ size_line d.size ∷ gamma_line d.gamma ∷ features_line d.features ∷ [])

-- ---- colour

unfoldable pub chroma_line : Chromaticities → List ℕ
chroma_line c = flat (
    text "chroma" ∷
    field16 c.red.x ∷ field16 c.red.y ∷ field16 c.green.x ∷ field16 c.green.y ∷
    field16 c.blue.x ∷ field16 c.blue.y ∷ field16 c.white.x ∷ field16 c.white.y ∷
    newline ∷ [])

-- the slot's number last, as in each line of an entry
unfoldable pub white_line : HeldPoint → List ℕ
white_line h = let w = h.point in flat (
    text "white" ∷ field8 w.index ∷ field16 w.place.x ∷ field16 w.place.y ∷ gamma w.gamma ∷ field16 h.slot ∷
    newline ∷ [])

-- in this list and the others, a length above the list's size counts as that size
unfoldable pub white_lines : WhitePoints → List ℕ
white_lines l = each white_line (take (min l.len 6) l.items)

-- ---- timings

unfoldable pub standard_line : HeldPair → List ℕ
standard_line h = let t = h.pair in flat (
    text "standard" ∷ field16 t.width ∷ field16 t.ratio.width ∷ field16 t.ratio.height ∷ field16 t.rate ∷ field16 h.slot ∷
    newline ∷ [])

unfoldable pub standard_lines : StandardTimings → List ℕ
standard_lines l = each standard_line (take (min l.len 26) l.items)

-- ---- the whole

-- of the input s
unfoldable pub record_lines : List ℕ → StandardRecord → List ℕ
record_lines s e = flat (
    product_line e.product ∷
    version_line e.version.version e.version.revision ∷
    display_lines e.display ∷
    chroma_line e.color.basic ∷
    white_lines e.color.points ∷
    established_line e.timings.established.items e.timings.established.len ∷
    standard_lines e.timings.standard ∷
    detailed_lines e.timings.detailed ∷
    descriptor_lines s e.descriptors ∷
    extensions_line e.extensions ∷ [])

unfoldable pub judged_lines : List ℕ → StandardRecord → Verdict → List ℕ
judged_lines s e (Ok tt) = flat (text "accept\n" ∷ record_lines s e ∷ [])
judged_lines s e (Err f) = refuse_line f

unfoldable pub listing_of : List ℕ → StandardReading → List ℕ
listing_of s r = judged_lines s r.edid r.end
