-- Laws: the fields of one byte or two: what each is made of comes back, and what is read fits.
use Rattle.std.specs.Prelude.{ℕ, ◌+◌, ◌*◌, ◌/◌, ◌%◌, ◌<◌, ◌≤◌, ◌≡◌, refl, Bool, true, false, ◌&&◌, eqb, leb}
use Rattle.std.proofs.Common.{sym, ap, ◌∙◌}
use native.Mathlib.Omega.{arith}
use borrow.Author.Tests.{eqb-true, eqb-false, eq-eqb, ne_eqb, le-leb, leb-true, not-true}
use Rattle.bits.specs.Fields.{digits}
use Rattle.shared_record.specs.declared.SupportedSync.{SupportedSync}
use Rattle.standard_record.specs.declared.Maker.{Maker}
use Rattle.standard_record.specs.declared.Week.{Week}
use Rattle.standard_record.specs.declared.Week.TheVariants.{Made, ModelYear}
use Rattle.standard_record.specs.declared.Depth.{Depth}
use Rattle.standard_record.specs.declared.VideoInput.{VideoInput}
use Rattle.standard_record.specs.declared.VideoInput.TheVariants.{Analog, Digital, Interface}
use Rattle.standard_record.specs.declared.ImageSize.{ImageSize}
use Rattle.standard_record.specs.declared.ImageSize.TheVariants as Image
use Rattle.standard_record.specs.declared.Ratio.{Ratio}
use Rattle.standard_record.specs.declared.DisplayType.{DisplayType}
use Rattle.standard_record.specs.declared.DisplayType.TheVariants.{Monochrome, RGBColor, OtherColor, Undefined}
use Rattle.standard_record.specs.declared.Kind.{Kind}
use Rattle.standard_record.specs.declared.Kind.TheVariants.{Typed, Encodings}
use Rattle.standard_record.specs.declared.Features.{Features}
use Rattle.standard_parts.specs.Structure.{since4}
use Rattle.standard_parts.specs.Head.{letter_of, maker_of, week_of, depth_of, input_of, ratio_alone, image_of, type_of, tells_interface, kind_of, features_of}
use Rattle.standard_parts.specs.declared.Structure.{Structure}
use Rattle.write_leaf.specs.Bytes.{digit, low}
use Rattle.write_leaf.specs.Digits.{digit_under, digit_back, agrees, two_hold, three_hold}
use Rattle.write_leaf.specs.Every.{at}
use Rattle.write_head.specs.Tests.{same_maker, week_fits, between, depth_fits, input_fits, size_excess, ratio_fits, image_fits, kind_fits}
use Rattle.write_head.specs.Head.{maker_word, maker_bytes, WritesMaker, week_byte, WritesWeek, depth_code, input_byte, WritesInput, image_bytes, WritesImage, type_code, kind_code, features_byte, WritesFeatures}

-- ---- letters

same_is : (a b : Maker) → same_maker a b ≡ true → a ≡ b
same_is a b h =
    let t = three_hold (eqb a.0 b.0) (eqb a.1 b.1) (eqb a.2 b.2) h in
    λ i. record {
      0 = eqb-true a.0 b.0 t.0 i;
      1 = eqb-true a.1 b.1 t.1 i;
      2 = eqb-true a.2 b.2 t.2 i;
    }

same_self : (a : Maker) → same_maker a a ≡ true
same_self a = rw (agrees a.0, agrees a.1, agrees a.2)

-- a letter's last five digits are read as it
letter_again : (c : ℕ) → c < 32 → letter_of (letter_of c % 32) ≡ letter_of c
letter_again c h = eqb-true _ _ (at (λ n. eqb (letter_of (letter_of n % 32)) (letter_of n)) 32 refl c h)

-- a word by its two bytes
pub word_whole : (n : ℕ) → n < 65536 → low n + 256 * low (n / 256) ≡ n
word_whole n h = omega arith

maker_again : (a b : ℕ) (m : Maker) → maker_of a b ≡ m → maker_of (maker_bytes m).0 (maker_bytes m).1 ≡ m
maker_again a b m e =
    let e0 : digits (maker_word m) 10 5 ≡ m.0 % 32 = omega arith in
    let e1 : digits (maker_word m) 5 5 ≡ m.1 % 32 = omega arith in
    let e2 : digits (maker_word m) 0 5 ≡ m.2 % 32 = omega arith in
    rw (word_whole (maker_word m) (omega arith), e0, e1, e2, ← e)
    (rw (
      letter_again (digits (b + 256 * a) 10 5) (omega arith),
      letter_again (digits (b + 256 * a) 5 5) (omega arith),
      letter_again (digits (b + 256 * a) 0 5) (omega arith),
    ))

pub writes_maker : (m : Maker) → WritesMaker m (same_maker (maker_of (maker_bytes m).0 (maker_bytes m).1) m) (maker_bytes m)
writes_maker m = record {
  made = refl;
  sound = same_is (maker_of (maker_bytes m).0 (maker_bytes m).1) m;
  complete = λ s b e. ap (λ x. same_maker x m) (maker_again s.0 s.1 m e) ∙ same_self m;
}

-- ---- the week

week_back : (σ : Structure) (w : Week) → week_fits σ w ≡ true → week_of σ (week_byte w) ≡ w
week_back σ (Made week) h = rw (not-true (since4 σ && eqb week 0xff) h)
week_back σ ModelYear h = rw h

week_read : (σ : Structure) (b : ℕ) → week_fits σ (week_of σ b) ≡ true
week_read σ b = go (since4 σ) (eqb b 0xff) refl refl
  where
    go : (x y : Bool) → since4 σ ≡ x → eqb b 0xff ≡ y → week_fits σ (week_of σ b) ≡ true
    go true true p q = rw (p, q) (rw p)
    go true false p q = rw (p, q) (rw (p, q))
    go false y p q = rw p (rw p)

pub writes_week : (σ : Structure) (w : Week) → WritesWeek σ w (week_fits σ w) (week_byte w)
writes_week σ w = record { made = refl; sound = week_back σ w; complete = λ b h e. rw (← e) (week_read σ b) }

-- ---- video input

pub within : (low high n : ℕ) → between low high n ≡ true → (low ≤ n) × (n ≤ high)
within low high n h = let t = two_hold (leb low n) (leb n high) h in (leb-true low n t.0, leb-true n high t.1)

module _ (σ : Structure) (level : ℕ) (setup : Bool) (y : SupportedSync) where
  analog_back : level ≤ 3 → input_of σ (input_byte (Analog level setup y)) ≡ Analog level setup y
  unfolding input_of
  analog_back h =
      let b4 = digit_under setup in
      let b3 = digit_under y.serrated in
      let b2 = digit_under y.green in
      let b1 = digit_under y.composite in
      let b0 = digit_under y.separate in
      let e7 : digits (input_byte (Analog level setup y)) 7 1 ≡ 0 = omega arith in
      let e5 : digits (input_byte (Analog level setup y)) 5 2 ≡ level = omega arith in
      let e4 : digits (input_byte (Analog level setup y)) 4 1 ≡ digit setup = omega arith in
      let e3 : digits (input_byte (Analog level setup y)) 3 1 ≡ digit y.serrated = omega arith in
      let e2 : digits (input_byte (Analog level setup y)) 2 1 ≡ digit y.green = omega arith in
      let e1 : digits (input_byte (Analog level setup y)) 1 1 ≡ digit y.composite = omega arith in
      let e0 : digits (input_byte (Analog level setup y)) 0 1 ≡ digit y.separate = omega arith in
      rw (e7, e5, e4, e3, e2, e1, e0) (simp digit_back)

-- a depth's code
depth_back : (d : Depth) → depth_fits d ≡ true → depth_of (depth_code d) ≡ d
depth_back Depth.Undefined h = refl
depth_back (Depth.Bits n) h =
    let t = two_hold (between 6 16 n) (eqb (n % 2) 0) h in
    let b = within 6 16 n t.0 in
    let even = eqb-true (n % 2) 0 t.1 in
    let e : 4 + 2 * ((n / 2 + 6) % 8) ≡ n = omega arith in
    rw (ne_eqb ((n / 2 + 6) % 8) 0 (λ z. omega arith), ne_eqb ((n / 2 + 6) % 8) 7 (λ z. omega arith), e)
depth_back Depth.Reserved h = refl

pub depth_under : (d : Depth) → depth_code d ≤ 7
depth_under Depth.Undefined = omega arith
depth_under (Depth.Bits n) = omega arith
depth_under Depth.Reserved = omega arith

module _ (σ : Structure) where
  input_back : (v : VideoInput) → input_fits σ v ≡ true → input_of σ (input_byte v) ≡ v
  unfolding input_of
  input_back (Digital true) h = rw (not-true (since4 σ) h)
  input_back (Digital false) h = rw (not-true (since4 σ) h)
  input_back (Interface d code) h =
      let t = three_hold (since4 σ) (depth_fits d) (leb code 15) h in
      let under = depth_under d in
      let few = leb-true code 15 t.2 in
      let e7 : digits (input_byte (Interface d code)) 7 1 ≡ 1 = omega arith in
      let e4 : digits (input_byte (Interface d code)) 4 3 ≡ depth_code d = omega arith in
      let e0 : digits (input_byte (Interface d code)) 0 4 ≡ code = omega arith in
      rw (e7, t.0, e4, e0, depth_back d t.1)
  input_back (Analog level setup y) h = analog_back σ level setup y (leb-true level 3 h)

input_read : (σ : Structure) (b : ℕ) → b < 256 → input_fits σ (input_of σ b) ≡ true
unfolding input_of
input_read Structure.Below3 = at (λ n. input_fits Structure.Below3 (input_of Structure.Below3 n)) 256 refl
input_read Structure.From3 = at (λ n. input_fits Structure.From3 (input_of Structure.From3 n)) 256 refl
input_read Structure.From4 = at (λ n. input_fits Structure.From4 (input_of Structure.From4 n)) 256 refl

pub writes_input : (σ : Structure) (v : VideoInput) → WritesInput σ v (input_fits σ v) (input_byte v)
writes_input σ v = record { made = refl; sound = input_back σ v; complete = λ b h e. rw (← e) (input_read σ b h) }

-- ---- image size

-- such a number by its tens
tens : (n : ℕ) → n % 10 ≡ 0 → n ≤ 2550 → low (n / 10) * 10 ≡ n
tens n h k = let small : n / 10 < 256 = omega arith in omega arith

-- one of a ratio by its byte
module _ (n : ℕ) (h : between 100 354 n ≡ true) where
  one_back : low (n + 157) + 99 ≡ n
  one_back = let b = within 100 354 n h in omega arith

  one_there : eqb (low (n + 157)) 0 ≡ false
  one_there = let b = within 100 354 n h in ne_eqb (low (n + 157)) 0 (λ e. omega arith)

ratio_back : (σ : Structure) (r : Ratio) → since4 σ ≡ true → (z : Bool) → eqb r.height 100 ≡ z → ratio_fits r ≡ true
    → image_of σ (image_bytes (Image.Ratio r)).0 (image_bytes (Image.Ratio r)).1 ≡ Image.Ratio r
unfolding image_of
ratio_back σ r new true e h =
    let k : between 100 354 r.width ≡ true = rw e at h in
    rw (e, one_there r.width k, new) (λ i. Image.Ratio (record { width = one_back r.width k i; height = sym (eqb-true r.height 100 e) i }))
ratio_back σ r new false e h =
    let t = two_hold (eqb r.width 100) (between 100 354 r.height) (rw e at h) in
    rw (e, one_there r.height t.1, new) (λ i. Image.Ratio (record { width = sym (eqb-true r.width 100 t.0) i; height = one_back r.height t.1 i }))

image_back : (σ : Structure) (z : ImageSize) → image_fits σ z ≡ true → image_of σ (image_bytes z).0 (image_bytes z).1 ≡ z
unfolding image_of
image_back σ Image.None h = refl
image_back σ (Image.Some s) h =
    let t = three_hold (leb 10 s.width) (leb 10 s.height) (eqb (size_excess s) 0) h in
    let wide = leb-true 10 s.width t.0 in
    let high = leb-true 10 s.height t.1 in
    let none = eqb-true (size_excess s) 0 t.2 in
    let w = tens s.width (omega arith) (omega arith) in
    let v = tens s.height (omega arith) (omega arith) in
    rw (ne_eqb (low (s.width / 10)) 0 (omega arith), ne_eqb (low (s.height / 10)) 0 (omega arith), w, v)
image_back σ (Image.Ratio r) h =
    let t = two_hold (since4 σ) (ratio_fits r) h in
    ratio_back σ r t.0 (eqb r.height 100) refl t.1

-- what one byte alone is read as
alone_read : (σ : Structure) (w h : ℕ) → ratio_fits (record { width = w; height = h }) ≡ true → image_fits σ (ratio_alone σ w h) ≡ true
alone_read σ w h e = go (since4 σ) refl
  where
    go : (x : Bool) → since4 σ ≡ x → image_fits σ (ratio_alone σ w h) ≡ true
    go true p = rw p (rw (p, e))
    go false p = rw p

tall_fits : (b : ℕ) → b < 256 → (b ≡ 0 → ⊥) → ratio_fits (record { width = 100; height = b + 99 }) ≡ true
tall_fits b h n = go (eqb (b + 99) 100) refl
  where
    go : (z : Bool) → eqb (b + 99) 100 ≡ z → ratio_fits (record { width = 100; height = b + 99 }) ≡ true
    go true e = rw e
    go false e = rw (e, le-leb 100 (b + 99) (omega arith), le-leb (b + 99) 354 (omega arith))

image_read : (σ : Structure) (a b : ℕ) → a < 256 → b < 256 → image_fits σ (image_of σ a b) ≡ true
unfolding image_of
image_read σ a b ha hb = go (eqb a 0) (eqb b 0) refl refl
  where
    go : (x y : Bool) → eqb a 0 ≡ x → eqb b 0 ≡ y → image_fits σ (image_of σ a b) ≡ true
    go true true p q = rw (p, q)
    go true false p q = rw (p, q) (alone_read σ 100 (b + 99) (tall_fits b hb (eqb-false b 0 q)))
    go false true p q =
        let na = eqb-false a 0 p in
        rw (p, q) (alone_read σ (a + 99) 100 (rw (le-leb 100 (a + 99) (omega arith), le-leb (a + 99) 354 (omega arith))))
    go false false p q =
        let na = eqb-false a 0 p in
        let nb = eqb-false b 0 q in
        rw (
          p,
          q,
          le-leb 10 (a * 10) (omega arith),
          le-leb 10 (b * 10) (omega arith),
          eq-eqb (a * 10 % 10 + b * 10 % 10 + a * 10 / 2551 + b * 10 / 2551) 0 (omega arith),
        )

pub writes_image : (σ : Structure) (z : ImageSize) → WritesImage σ z (image_fits σ z) (image_bytes z)
writes_image σ z = record {
  made = refl;
  sound = image_back σ z;
  complete = λ s h e. rw (← e) (image_read σ s.0 s.1 h.0 h.1);
}

-- ---- features

type_back : (k : DisplayType) → (type_code k ≤ 3) × (type_of (type_code k) ≡ k)
type_back Monochrome = (omega arith, refl)
type_back RGBColor = (omega arith, refl)
type_back OtherColor = (omega arith, refl)
type_back Undefined = (omega arith, refl)

pub kind_under : (k : Kind) → kind_code k ≤ 3
kind_under (Typed t) = (type_back t).0
kind_under (Encodings a b) = omega (arith, digit_under a, digit_under b)

kind_back : (encoded : Bool) (k : Kind) → kind_fits encoded k ≡ true → kind_of encoded (kind_code k) ≡ k
kind_back encoded (Typed t) h = rw (not-true encoded h) (ap Typed (type_back t).1)
kind_back encoded (Encodings true true) h = rw h
kind_back encoded (Encodings true false) h = rw h
kind_back encoded (Encodings false true) h = rw h
kind_back encoded (Encodings false false) h = rw h

kind_read : (encoded : Bool) (code : ℕ) → kind_fits encoded (kind_of encoded code) ≡ true
kind_read true code = refl
kind_read false code = refl

module _ (input : VideoInput) (f : Features) where
  features_back : kind_fits (tells_interface input) f.kind ≡ true → features_of input (features_byte f) ≡ f
  unfolding features_of
  features_back h =
      let b7 = digit_under f.standby in
      let b6 = digit_under f.suspend in
      let b5 = digit_under f.lowpower in
      let b3 = kind_under f.kind in
      let b2 = digit_under f.srgb in
      let b1 = digit_under f.preferred in
      let b0 = digit_under f.gtf in
      let e7 : digits (features_byte f) 7 1 ≡ digit f.standby = omega arith in
      let e6 : digits (features_byte f) 6 1 ≡ digit f.suspend = omega arith in
      let e5 : digits (features_byte f) 5 1 ≡ digit f.lowpower = omega arith in
      let e3 : digits (features_byte f) 3 2 ≡ kind_code f.kind = omega arith in
      let e2 : digits (features_byte f) 2 1 ≡ digit f.srgb = omega arith in
      let e1 : digits (features_byte f) 1 1 ≡ digit f.preferred = omega arith in
      let e0 : digits (features_byte f) 0 1 ≡ digit f.gtf = omega arith in
      rw (e7, e6, e5, e3, e2, e1, e0) (simp (digit_back, kind_back (tells_interface input) f.kind h))

  pub writes_features : WritesFeatures input f (kind_fits (tells_interface input) f.kind) (features_byte f)
  unfolding features_of
  writes_features = record {
    made = refl;
    sound = features_back;
    complete = λ b h e. rw (← e) (kind_read (tells_interface input) (digits b 3 2));
  }
