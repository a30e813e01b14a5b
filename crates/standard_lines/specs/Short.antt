-- The longest listing is below a page, so what is written of a page is the listing, whole.
use Rattle.std.specs.Prelude.{ℕ, ◌≤◌, Bool, true, false, List, ◌≡◌, eqb, length, take, drop, Ok, Err, None, Option, Some}
use Rattle.std.proofs.Common.{arith, length-append}
use Rattle.page.specs.declared.Page.{Page}
use Rattle.page.specs.Page.{◌▷◌}
use Rattle.page.specs.Words.{flat}
use Rattle.page.specs.Short.{either, field32_length, field16_length, field8_length, flag_length, first_length}
use Rattle.page.specs.Meaning.{whole, only}
use Rattle.shared_lines.specs.Short.{numbers_length, version_length, flags_length, digital_length, dpms_length, established_length, extensions_length, refuse_length}
use Rattle.standard_record.specs.declared.Product.{Product}
use Rattle.standard_record.specs.declared.Week.{Week}
use Rattle.standard_record.specs.declared.Week.TheVariants.{Made, ModelYear}
use Rattle.standard_record.specs.declared.Depth.{Depth}
use Rattle.standard_record.specs.declared.VideoInput.{VideoInput}
use Rattle.standard_record.specs.declared.VideoInput.TheVariants.{Analog, Digital, Interface}
use Rattle.standard_record.specs.declared.Kind.{Kind}
use Rattle.standard_record.specs.declared.Kind.TheVariants.{Typed, Encodings}
use Rattle.standard_record.specs.declared.Features.{Features}
use Rattle.standard_record.specs.declared.ImageSize.{ImageSize}
use Rattle.standard_record.specs.declared.ImageSize.TheVariants as Size
use Rattle.standard_record.specs.declared.Display.{Display}
use Rattle.standard_record.specs.declared.Chromaticities.{Chromaticities}
use Rattle.standard_record.specs.declared.HeldPoint.{HeldPoint}
use Rattle.standard_record.specs.Lists.{WhitePoints}
use Rattle.standard_record.specs.declared.HeldPair.{HeldPair}
use Rattle.standard_record.specs.Lists.{StandardTimings}
use Rattle.standard_record.specs.declared.StandardRecord.{StandardRecord}
use Rattle.standard_record.specs.Verdict.{Verdict}
use Rattle.standard_record.specs.declared.StandardReading.{StandardReading}
use Rattle.standard_slot_lines.specs.Short.{detailed_lengths, descriptor_lengths}
use Rattle.standard_lines.specs.Main.{main_lines}
use Rattle.standard_lines.specs.Lines.{letter, numbers, product_line, depth, input_line, size_line, gamma, gamma_line, kind, encodings, features_by, features_line, display_lines, chroma_line, white_line, white_lines, standard_line, standard_lines, record_lines, judged_lines, listing_of}

letter_length : (b : ℕ) → length (letter b) ≤ 2
unfolding letter
letter_length b = either (eqb b 0) _ _ 2 (omega arith) (omega arith)

product_numbers_length : (code serial : ℕ) (w : Week) (year : ℕ) → length (numbers code serial w year) ≤ 30
unfolding numbers flat
product_numbers_length code serial (Made week) year = omega (arith, numbers_length code serial week year)
product_numbers_length code serial ModelYear year =
    simp length-append (omega (arith, field16_length code, field32_length serial, field16_length year))

product_length : (p : Product) → length (product_line p) ≤ 43
unfolding product_line flat
product_length p =
    simp length-append
    (omega (
      arith,
      letter_length p.maker.0,
      letter_length p.maker.1,
      letter_length p.maker.2,
      product_numbers_length p.code p.serial p.week p.year,
    ))

depth_length : (t : Depth) → length (depth t) ≤ 10
unfolding depth
depth_length Depth.Undefined = omega arith
depth_length (Depth.Bits n) = omega (arith, field8_length n)
depth_length Depth.Reserved = omega arith

input_length : (t : VideoInput) → length (input_line t) ≤ 22
unfolding input_line flat
input_length (Analog level setup sync) =
    simp length-append
    (omega (arith, field8_length level, flags_length setup sync.serrated sync.green sync.composite sync.separate))
input_length (Digital dfp) = omega (arith, digital_length dfp)
input_length (Interface d code) = simp length-append (omega (arith, depth_length d, field8_length code))

size_length : (t : ImageSize) → length (size_line t) ≤ 23
unfolding size_line flat
size_length Size.None = omega arith
size_length (Size.Some s) = simp length-append (omega (arith, field16_length s.width, field16_length s.height))
size_length (Size.Ratio r) = simp length-append (omega (arith, field16_length r.width, field16_length r.height))

gamma_length : (t : Option ℕ) → length (gamma t) ≤ 6
unfolding gamma
gamma_length None = omega arith
gamma_length (Some g) = field16_length g

encodings_length : (ycrcb444 ycrcb422 : Bool) → length (encodings ycrcb444 ycrcb422) ≤ 3
unfolding encodings
encodings_length false false = omega arith
encodings_length true false = omega arith
encodings_length false true = omega arith
encodings_length true true = omega arith

features_length : (t : Kind) (f : Features) → length (features_by t f) ≤ 21
unfolding features_by flat
features_length (Typed t) f = omega (arith, dpms_length f.standby f.suspend f.lowpower (kind t) f.srgb f.preferred f.gtf)
features_length (Encodings ycrcb444 ycrcb422) f =
    simp length-append
    (omega (
      arith,
      encodings_length ycrcb444 ycrcb422,
      flag_length f.standby,
      flag_length f.suspend,
      flag_length f.lowpower,
      flag_length f.srgb,
      flag_length f.preferred,
      flag_length f.gtf,
    ))

display_length : (d : Display) → length (display_lines d) ≤ 78
unfolding display_lines gamma_line features_line flat
display_length d =
    simp length-append
    (omega (arith, input_length d.input, size_length d.size, gamma_length d.gamma, features_length d.features.kind d.features))

chroma_length : (c : Chromaticities) → length (chroma_line c) ≤ 55
unfolding chroma_line flat
chroma_length c =
    simp length-append
    (omega (
      arith,
      field16_length c.red.x,
      field16_length c.red.y,
      field16_length c.green.x,
      field16_length c.green.y,
      field16_length c.blue.x,
      field16_length c.blue.y,
      field16_length c.white.x,
      field16_length c.white.y,
    ))

white_length : (h : HeldPoint) → length (white_line h) ≤ 34
unfolding white_line flat
white_length h =
    let w = h.point in
    simp length-append
    (omega (
      arith,
      field8_length w.index,
      field16_length w.place.x,
      field16_length w.place.y,
      gamma_length w.gamma,
      field16_length h.slot,
    ))

white_lengths : (l : WhitePoints) → length (white_lines l) ≤ 204
unfolding white_lines
white_lengths l = first_length white_line 34 6 white_length l.len l.items

standard_length : (h : HeldPair) → length (standard_line h) ≤ 39
unfolding standard_line flat
standard_length h =
    let t = h.pair in
    simp length-append
    (omega (
      arith,
      field16_length t.width,
      field16_length t.ratio.width,
      field16_length t.ratio.height,
      field16_length t.rate,
      field16_length h.slot,
    ))

standard_lengths : (l : StandardTimings) → length (standard_lines l) ≤ 1014
unfolding standard_lines
standard_lengths l = first_length standard_line 39 26 standard_length l.len l.items

pub main_length : (e : StandardRecord) → length (main_lines e) ≤ 1938
unfolding main_lines flat
main_length e =
    simp length-append
    (omega (
      arith,
      product_length e.product,
      version_length e.version.version e.version.revision,
      display_length e.display,
      chroma_length e.color.basic,
      white_lengths e.color.points,
      established_length e.timings.established.items e.timings.established.len,
      standard_lengths e.timings.standard,
      detailed_lengths e.timings.detailed,
    ))

record_length : (s : List ℕ) (e : StandardRecord) → length (record_lines s e) ≤ 2235
unfolding record_lines flat
record_length s e =
    simp length-append
    (omega (
      arith,
      product_length e.product,
      version_length e.version.version e.version.revision,
      display_length e.display,
      chroma_length e.color.basic,
      white_lengths e.color.points,
      established_length e.timings.established.items e.timings.established.len,
      standard_lengths e.timings.standard,
      detailed_lengths e.timings.detailed,
      descriptor_lengths s e.descriptors,
      extensions_length e.extensions,
    ))

judged_length : (s : List ℕ) (e : StandardRecord) (t : Verdict) → length (judged_lines s e t) ≤ 2242
unfolding judged_lines flat
judged_length s e (Ok tt) = simp length-append (omega (arith, record_length s e))
judged_length s e (Err f) = omega (arith, refuse_length f)

-- of every reading, whatever its record holds
pub short : (s : List ℕ) (t : StandardReading) → length (listing_of s t) ≤ 2242
unfolding listing_of
short s t = judged_length s t.edid t.end

pub printed : (s : List ℕ) (t : StandardReading) (p q : Page) → length p.out.now ≡ 4096 → p.at ≡ 0 → q ≡ p ▷ listing_of s t
    → (take q.at q.out.now ≡ listing_of s t) × (drop q.at q.out.now ≡ drop q.at p.out.now)
printed s t p q l z e = let h = short s t in whole (listing_of s t) p q l z (omega arith) e

-- what `standard_lines::listing` ensures leaves one count and one page
pub one : (s : List ℕ) (t : StandardReading) (out p q : List ℕ) (m n : ℕ) → length p ≡ 4096 → length q ≡ 4096
    → (take m p ≡ listing_of s t) × (drop m p ≡ drop m out) → (take n q ≡ listing_of s t) × (drop n q ≡ drop n out)
    → (m ≡ n) × (p ≡ q)
one s t out p q m n = let h = short s t in only (listing_of s t) out p q m n (omega arith)
