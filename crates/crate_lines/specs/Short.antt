-- The longest listing is below a page, so what is written of a page is the listing, whole.
use Rattle.std.specs.Prelude.{ℕ, ◌≤◌, List, ◌≡◌, length, take, drop, Float, Option, Some, None, Result, Ok, Err}
use Rattle.std.proofs.Common.{arith, length-append}
use Rattle.page.specs.declared.Page.{Page}
use Rattle.page.specs.Page.{◌▷◌}
use Rattle.page.specs.Words.{flat}
use Rattle.page.specs.Short.{field_length, field16_length, field8_length, float_length, first_length}
use Rattle.shared_lines.specs.Short.{numbers_length, version_length, flags_length, digital_length, dpms_length, established_length, extensions_length, refuse_length}
use Rattle.page.specs.Meaning.{whole, only}
use Rattle.steps.specs.declared.Refusal.{Refusal}
use Rattle.crate_record.specs.declared.ProductInformation.{ProductInformation}
use Rattle.crate_record.specs.declared.VideoInput.{VideoInput}
use Rattle.crate_record.specs.declared.VideoInput.TheVariants.{Analog, Digital}
use Rattle.crate_record.specs.declared.ImageSize.{ImageSize}
use Rattle.crate_record.specs.declared.DPMSFeatures.{DPMSFeatures}
use Rattle.crate_record.specs.declared.DisplayParameters.{DisplayParameters}
use Rattle.crate_record.specs.declared.Chromaticities.{Chromaticities}
use Rattle.crate_record.specs.declared.WhitePoint.{WhitePoint}
use Rattle.crate_record.specs.Lists.{WhitePoints}
use Rattle.crate_record.specs.declared.StandardTiming.{StandardTiming}
use Rattle.crate_record.specs.Lists.{StandardTimings}
use Rattle.crate_record.specs.declared.EDID.{EDID}
use Rattle.crate_record.specs.declared.Reading.{Reading}
use Rattle.crate_slot_lines.specs.Short.{detailed_lengths, descriptor_lengths}
use Rattle.crate_lines.specs.Lines.{product_line, input_line, size_line, gamma_line, kind, features_line, display_lines, chroma_line, white_line, white_lines, standard_line, standard_lines, accept_line, edid_lines, ended_lines, listing_of}

product_length : (p : ProductInformation) → length (product_line p) ≤ 47
unfolding product_line flat
product_length p =
    simp length-append
    (omega (
      arith,
      field8_length p.maker.0,
      field8_length p.maker.1,
      field8_length p.maker.2,
      numbers_length p.code p.serial p.date.week p.date.year,
    ))

input_length : (t : VideoInput) → length (input_line t) ≤ 35
unfolding input_line flat
input_length (Analog level setup sync) =
    simp length-append
    (omega (
      arith,
      float_length level.high,
      float_length level.low,
      flags_length setup sync.serrated sync.green sync.composite sync.separate,
    ))
input_length (Digital dfp) = omega (arith, digital_length dfp)

size_length : (t : Option ImageSize) → length (size_line t) ≤ 23
unfolding size_line flat
size_length None = omega arith
size_length (Some s) = simp length-append (omega (arith, float_length s.width, float_length s.height))

gamma_length : (t : Option Float) → length (gamma_line t) ≤ 15
unfolding gamma_line flat
gamma_length None = omega arith
gamma_length (Some g) = simp length-append (omega (arith, float_length g))

features_length : (f : DPMSFeatures) → length (features_line f) ≤ 21
unfolding features_line
features_length f = dpms_length f.standby f.suspend f.lowpower (kind f.kind) f.srgb f.preferred f.gtf

display_length : (d : DisplayParameters) → length (display_lines d) ≤ 94
unfolding display_lines flat
display_length d =
    simp length-append
    (omega (arith, input_length d.input, size_length d.size, gamma_length d.gamma, features_length d.dpms))

chroma_length : (c : Chromaticities) → length (chroma_line c) ≤ 79
unfolding chroma_line flat
chroma_length c =
    simp length-append
    (omega (
      arith,
      float_length c.red.x,
      float_length c.red.y,
      float_length c.green.x,
      float_length c.green.y,
      float_length c.blue.x,
      float_length c.blue.y,
      float_length c.white.x,
      float_length c.white.y,
    ))

white_length : (w : WhitePoint) → length (white_line w) ≤ 37
unfolding white_line flat
white_length w =
    simp length-append (omega (arith, field8_length w.index, float_length w.x, float_length w.y, float_length w.gamma))

white_lengths : (l : WhitePoints) → length (white_lines l) ≤ 222
unfolding white_lines
white_lengths l = first_length white_line 37 6 white_length l.len l.items

standard_length : (t : StandardTiming) → length (standard_line t) ≤ 30
unfolding standard_line flat
standard_length t = simp length-append (omega (arith, field16_length t.width, float_length t.ratio, field16_length t.rate))

standard_lengths : (l : StandardTimings) → length (standard_lines l) ≤ 780
unfolding standard_lines
standard_lengths l = first_length standard_line 30 26 standard_length l.len l.items

accept_length : (n : ℕ) → length (accept_line n) ≤ 28
unfolding accept_line flat
accept_length n = simp length-append (omega (arith, field_length n))

edid_length : (s : List ℕ) (e : EDID) → length (edid_lines s e) ≤ 2067
unfolding edid_lines flat
edid_length s e =
    simp length-append
    (omega (
      arith,
      product_length e.product,
      version_length e.version.version e.version.revision,
      display_length e.display,
      chroma_length e.color.basic,
      white_lengths e.color.points,
      established_length e.timings.established.items e.timings.established.len,
      standard_lengths e.timings.standard,
      detailed_lengths e.timings.detailed,
      descriptor_lengths s e.descriptors,
      extensions_length e.extensions,
    ))

ended_length : (s : List ℕ) (e : EDID) (t : Result ℕ Refusal) → length (ended_lines s e t) ≤ 2095
unfolding ended_lines flat
ended_length s e (Ok n) = simp length-append (omega (arith, accept_length n, edid_length s e))
ended_length s e (Err f) = omega (arith, refuse_length f)

-- of every reading, whatever its record holds
pub short : (s : List ℕ) (t : Reading) → length (listing_of s t) ≤ 2095
unfolding listing_of
short s t = ended_length s t.edid t.end

pub printed : (s : List ℕ) (t : Reading) (p q : Page) → length p.out.now ≡ 4096 → p.at ≡ 0 → q ≡ p ▷ listing_of s t
    → (take q.at q.out.now ≡ listing_of s t) × (drop q.at q.out.now ≡ drop q.at p.out.now)
printed s t p q l z e = let h = short s t in whole (listing_of s t) p q l z (omega arith) e

-- what `crate_lines::listing` ensures leaves one count and one page
pub one : (s : List ℕ) (t : Reading) (out p q : List ℕ) (m n : ℕ) → length p ≡ 4096 → length q ≡ 4096
    → (take m p ≡ listing_of s t) × (drop m p ≡ drop m out) → (take n q ≡ listing_of s t) × (drop n q ≡ drop n out)
    → (m ≡ n) × (p ≡ q)
one s t out p q m n = let h = short s t in only (listing_of s t) out p q m n (omega arith)
