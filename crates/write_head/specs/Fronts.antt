-- Laws: the front is read as what it was made of where the tests are passed, and they are passed where any front is.
use Rattle.std.specs.Prelude.{ℕ, ◌+◌, ◌*◌, ◌/◌, ◌%◌, ◌<◌, ◌≡◌, refl, Bool, true, List, [], ◌∷◌, eqb}
use Rattle.std.proofs.Math.Path.{ap}
use Rattle.std.proofs.Common.{arith}
use borrow.Author.Tests.{eqb-true, le-leb}
use Rattle.bits.specs.Bytes.{◌!◌}
use Rattle.bits.specs.Fields.{digits}
use Rattle.shared_record.specs.declared.Version.{Version}
use Rattle.standard_record.specs.declared.Product.{Product}
use Rattle.standard_record.specs.declared.Display.{Display}
use Rattle.standard_record.specs.declared.Chromaticity.{Chromaticity}
use Rattle.standard_parts.specs.Structure.{structure_of}
use Rattle.standard_parts.specs.Color.{chromaticity_of}
use Rattle.standard_parts.specs.declared.Structure.{Structure}
use Rattle.standard_head.specs.Head.{structure_in, product_in, colors_in}
use Rattle.write_leaf.specs.Bytes.{Bytes, digit, low}
use Rattle.write_leaf.specs.Digits.{fields, field_6, field_4, field_2, field_0, digit_under, digit_true, two_hold}
use Rattle.write_leaf.specs.Leaf.{Two}
use Rattle.write_parts.specs.Point.{place_low, WritesGamma}
use Rattle.write_head.specs.Head.{WritesMaker, WritesInput, WritesImage, WritesFeatures}
use Rattle.write_head.specs.Flags.{Three, WritesFlags}
use Rattle.write_head.specs.Front.{Front, header_bytes, number_bytes, color_bytes, front_bytes, ReadsFront, WritesFront, year_fits, numbers_fit, color_excess, all_fit}
use Rattle.write_head.specs.Tests.{week_fits}
use Rattle.write_head.specs.Heads.{word_whole, within, writes_week}

-- ---- product numbers

long_whole : (n : ℕ) → n < 4294967296 → low n + 256 * low (n / 256) + 65536 * (low (n / 65536) + 256 * low (n / 16777216)) ≡ n
long_whole n h =
    let upper = word_whole (n / 65536) (omega arith) in
    let same : n / 16777216 ≡ n / 65536 / 256 = omega arith in
    rw (same, upper) (omega arith)

year_back : (y : ℕ) → year_fits y ≡ true → low (y + 58) + 1990 ≡ y
year_back y h = omega (arith, within 1990 2245 y h)

year_read : (b : ℕ) → b < 256 → year_fits (b + 1990) ≡ true
year_read b h = rw (le-leb 1990 (b + 1990) (omega arith), le-leb (b + 1990) 2245 (omega arith))

-- ---- colours

-- the upper half of a byte, by its fields of two digits
upper_six : (n : ℕ) → digits (digits n 4 4) 2 2 ≡ digits n 6 2
upper_six n = omega arith

upper_four : (n : ℕ) → digits (digits n 4 4) 0 2 ≡ digits n 4 2
upper_four n = omega arith

-- a number of ten digits by its last two and the eight above them
ten_whole : (n : ℕ) → n < 1024 → n % 4 + 4 * low (n / 4) ≡ n
ten_whole n h = omega arith

-- two places in a byte of their low digits
module _ (a b : Chromaticity) where
  quarters : place_low a.x a.y * 16 + place_low b.x b.y ≡ fields (a.x % 4) (a.y % 4) (b.x % 4) (b.y % 4)
  quarters = omega arith

  upper_place : a.x < 1024 → a.y < 1024
      → chromaticity_of (digits (place_low a.x a.y * 16 + place_low b.x b.y) 4 4) (low (a.x / 4)) (low (a.y / 4)) ≡ a
  upper_place hx hy =
      rw (
        quarters,
        upper_six (fields (a.x % 4) (a.y % 4) (b.x % 4) (b.y % 4)),
        upper_four (fields (a.x % 4) (a.y % 4) (b.x % 4) (b.y % 4)),
        field_6 a.x a.y b.x b.y,
        field_4 a.x a.y b.x b.y,
        ten_whole a.x hx,
        ten_whole a.y hy,
      )

  lower_place : b.x < 1024 → b.y < 1024
      → chromaticity_of (place_low a.x a.y * 16 + place_low b.x b.y) (low (b.x / 4)) (low (b.y / 4)) ≡ b
  lower_place hx hy =
      rw (quarters, field_2 a.x a.y b.x b.y, field_0 a.x a.y b.x b.y, ten_whole b.x hx, ten_whole b.y hy)

-- ten digits are below 1024
ten : (low high : ℕ) → high < 256 → (low % 4 + 4 * high) / 1024 ≡ 0
ten low high h = omega arith

colors_read : (s : List ℕ) → Bytes s → color_excess (colors_in s) ≡ 0
unfolding colors_in
colors_read s b =
    rw (
      ten (digits (s ! 25) 4 4 / 4) (s ! 27) (b 27),
      ten (digits (s ! 25) 4 4 / 1) (s ! 28) (b 28),
      ten (s ! 25 / 4) (s ! 29) (b 29),
      ten (s ! 25 / 1) (s ! 30) (b 30),
      ten (digits (s ! 26) 4 4 / 4) (s ! 31) (b 31),
      ten (digits (s ! 26) 4 4 / 1) (s ! 32) (b 32),
      ten (s ! 26 / 4) (s ! 33) (b 33),
      ten (s ! 26 / 1) (s ! 34) (b 34),
    )

-- ---- the tests

record Passed (maker numbers version input image gamma features color flags : Bool) : Type 0 where
  maker_fits : maker ≡ true
  numbers_fit_lem : numbers ≡ true
  version_fits : version ≡ true
  input_fits_lem : input ≡ true
  image_fits_lem : image ≡ true
  gamma_fits_lem : gamma ≡ true
  features_fit : features ≡ true
  color_fits : color ≡ true
  flags_fit : flags ≡ true

passed : (a b c d e f g h i : Bool) → all_fit a b c d e f g h i ≡ true → Passed a b c d e f g h i
passed a b c d e f g h i t =
    let na = digit_under a in
    let nb = digit_under b in
    let nc = digit_under c in
    let nd = digit_under d in
    let ne = digit_under e in
    let nf = digit_under f in
    let ng = digit_under g in
    let nh = digit_under h in
    let ni = digit_under i in
    let all = eqb-true (digit a + digit b + digit c + digit d + digit e + digit f + digit g + digit h + digit i) 9 t in
    record {
      maker_fits = digit_true a (omega arith);
      numbers_fit_lem = digit_true b (omega arith);
      version_fits = digit_true c (omega arith);
      input_fits_lem = digit_true d (omega arith);
      image_fits_lem = digit_true e (omega arith);
      gamma_fits_lem = digit_true f (omega arith);
      features_fit = digit_true g (omega arith);
      color_fits = digit_true h (omega arith);
      flags_fit = digit_true i (omega arith);
    }

-- ---- the front

-- the parts of f are written, as far as they have a function of their own
pub record Parts (f : Front) (maker_fits : Bool) (m : Two) (input_fits_lem : Bool) (v : ℕ) (image_fits_lem : Bool) (z : Two)
    (gamma_fits_lem : Bool) (g : ℕ) (features_fit : Bool) (t : ℕ) (flags_fit : Bool) (l : Three) : Type 0 where
  pub code : f.product.code < 65536
  pub serial : f.product.serial < 4294967296
  pub maker : WritesMaker f.product.maker maker_fits m
  pub input : WritesInput (structure_of f.version.revision) f.display.input input_fits_lem v
  pub image : WritesImage (structure_of f.version.revision) f.display.size image_fits_lem z
  pub gamma : WritesGamma f.display.gamma gamma_fits_lem g
  pub features : WritesFeatures f.display.input f.display.features features_fit t
  pub flags : WritesFlags f.established flags_fit l

module _ {f : Front} {mf vf zf gf tf lf : Bool} {m z : Two} {v g t : ℕ} {l : Three} (p : Parts f mf m vf v zf z gf g tf t lf l) where
  abbrev σ : Structure
  σ = structure_of f.version.revision

  abbrev front_fits : Bool
  front_fits = all_fit mf (numbers_fit σ f.product) (eqb f.version.version 1) vf zf gf tf (eqb (color_excess f.basic) 0) lf

  abbrev bytes : List ℕ
  bytes =
      header_bytes
      (m.0 ∷ m.1
      ∷ number_bytes f.product
      (f.version.version ∷ f.version.revision ∷ v ∷ z.0 ∷ z.1 ∷ g ∷ t ∷ color_bytes f.basic (l.0 ∷ l.1 ∷ l.2 ∷ [])))

  made : bytes ≡ front_bytes f
  unfolding front_bytes
  made = rw (p.maker.made, p.input.made, p.image.made, p.gamma.made, p.features.made, p.flags.made)

  sound : front_fits ≡ true → ReadsFront bytes f
  unfolding product_in colors_in
  sound e =
      let a = passed mf (numbers_fit σ f.product) (eqb f.version.version 1) vf zf gf tf (eqb (color_excess f.basic) 0) lf e in
      let n = two_hold (year_fits f.product.year) (week_fits σ f.product.week) a.numbers_fit_lem in
      let c = f.basic in
      let none = eqb-true (color_excess c) 0 a.color_fits in
      record {
        header = refl;
        one = eqb-true _ _ a.version_fits;
        product = rw (
          p.maker.sound a.maker_fits,
          word_whole f.product.code p.code,
          long_whole f.product.serial p.serial,
          (writes_week σ f.product.week).sound n.1,
          year_back f.product.year n.0,
        );
        version = refl;
        display = rw (p.input.sound a.input_fits_lem, p.image.sound a.image_fits_lem, p.gamma.sound a.gamma_fits_lem, p.features.sound a.features_fit);
        basic = rw (
          upper_place c.red c.green (omega arith) (omega arith),
          lower_place c.red c.green (omega arith) (omega arith),
          upper_place c.blue c.white (omega arith) (omega arith),
          lower_place c.blue c.white (omega arith) (omega arith),
        );
        established = p.flags.sound a.flags_fit;
      }

  complete : (s : List ℕ) → Bytes s → ReadsFront s f → front_fits ≡ true
  unfolding product_in
  complete s b r =
      let same : structure_in s ≡ σ = ap (λ (x : Version). structure_of x.revision) r.version in
      let week = rw same at (ap (λ (x : Product). x.week) r.product) in
      let input = ap (λ (x : Display). x.input) r.display in
      rw (
        p.maker.complete (s ! 8, s ! 9) (b 8, b 9) (ap (λ (x : Product). x.maker) r.product),
        (writes_week σ f.product.week).complete (s ! 16) (b 16) week,
        ← ap (λ (x : Product). x.year) r.product,
        year_read (s ! 17) (b 17),
        ← ap (λ (x : Version). x.version) r.version,
        r.one,
        p.input.complete (s ! 20) (b 20) (rw same at input),
        p.image.complete (s ! 21, s ! 22) (b 21, b 22) (rw same at (ap (λ (x : Display). x.size) r.display)),
        p.gamma.complete (s ! 23) (b 23) (ap (λ (x : Display). x.gamma) r.display),
        p.features.complete (s ! 24) (b 24) (rw input at (ap (λ (x : Display). x.features) r.display)),
        ← r.basic,
        colors_read s b,
        p.flags.complete (s ! 35, s ! 36, s ! 37) (b 35, b 36, b 37) r.established,
      )

  pub writes_front : WritesFront f front_fits bytes
  writes_front = record { made = made; sound = sound; complete = complete }
