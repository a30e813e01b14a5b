-- What both readings make of the same few bytes: the crate's is the standard one, converted.
use Rattle.std.specs.Prelude.{ℕ, zero, suc, ◌+◌, ◌*◌, ◌/◌, ◌%◌, ◌^◌, ◌<◌, ◌≡◌, refl, Bool, true, false, ◌&&◌, ◌||◌, not, cond, [], ◌∷◌, map, eqb, ltb, Option, Some, None}
use Rattle.std.proofs.Common.{sym, ap, ◌∙◌, add-zero, arith, eqb-true, lt-ltb, le-ltb, ne_eqb}
use Rattle.std.specs.Float.{binary32}
use Rattle.std.specs.Float.Ieee.{of_bits, of_int, add, div}
use Rattle.bits.specs.Fields.{digits, bit, by_code}
use Rattle.crate_record.specs.Single.{f10, f100, whole, coordinate, ratio_of as crate_ratio_of}
use Rattle.crate_record.specs.declared.ImageSize.{ImageSize as CrateSize}
use Rattle.crate_record.specs.declared.VideoInput.{VideoInput as CrateInput}
use Rattle.crate_record.specs.declared.StandardTiming.{StandardTiming as CrateTiming}
use Rattle.crate_head.specs.Head.{input_of as crate_input_of, size_of, gamma_from as crate_gamma_of, kind_of, dpms_of}
use Rattle.crate_timings.specs.Pairs.{standard_timing_of, pair_of as crate_pair_of, listed}
use Rattle.crate_record.specs.declared.SyncLine.{SyncLine as CrateLine}
use Rattle.crate_record.specs.declared.SyncType.{SyncType}
use Rattle.crate_detailed.specs.Detailed.{line_of as crate_line_of, sync_by as crate_sync_by}
use Rattle.crate_descriptors.specs.Descriptors.{point_of as crate_point_of, limits_of as crate_limits_of}
use Rattle.timing.specs.Rest.{polarity_of}
use Rattle.timing.specs.declared.Size.{Size}
use Rattle.standard_record.specs.declared.StandardTiming.{StandardTiming}
use Rattle.standard_record.specs.declared.Week.{Week}
use Rattle.standard_record.specs.declared.VideoInput.{VideoInput}
use Rattle.standard_record.specs.declared.ImageSize.{ImageSize}
use Rattle.standard_record.specs.declared.Sync.{Sync}
use Rattle.standard_timing.specs.Timing.{line_of, sync_by}
use Rattle.standard_parts.specs.Structure.{since4}
use Rattle.standard_parts.specs.Head.{week_of, depth_of, input_of, image_of, gamma_of, type_of, tells_interface, kind_of as standard_kind_of, features_of}
use Rattle.standard_parts.specs.Descriptors.{offsets_of, limits_of}
use Rattle.standard_parts.specs.Color.{point_of}
use Rattle.standard_parts.specs.Timings.{ratio_of, pair_of}
use Rattle.standard_parts.specs.declared.Structure.{Structure}
use Rattle.standard_slots.specs.Said.{of_pair, of_point}
use Rattle.marking.specs.Marks.{code_zero}
use Rattle.differences.specs.Converted.{over, week_from, input_from, size_from, gamma_from, type_from, kind_from, features_from, ratio_from, pair_from, point_from, line_from, sync_from, limits_from}
use Rattle.differences.specs.Floats.{sum_whole, quotient_whole}

-- by one test, and by a code
pub through : {A B : Type 0} (f : A → B) (t : Bool) {x y : A} {x' y' : B} → x' ≡ f x → y' ≡ f y → cond t x' y' ≡ f (cond t x y)
through f true p q = p
through f false p q = q

pub through_code : {A B : Type 0} (f : A → B) (n : ℕ) {a b c d : A} {a' b' c' d' : B} → a' ≡ f a → b' ≡ f b → c' ≡ f c → d' ≡ f d
    → by_code n a' b' c' d' ≡ f (by_code n a b c d)
through_code f n p q r s = through f (eqb n 0) p (through f (eqb n 1) q (through f (eqb n 2) r s))

-- ---- the head

pub week_agrees : (σ : Structure) (b : ℕ) → b ≡ week_from (week_of σ b)
week_agrees σ b = go (since4 σ) (eqb b 0xff) refl
  where
    go : (x y : Bool) → eqb b 0xff ≡ y → b ≡ week_from (cond (x && y) Week.ModelYear (Week.Made b))
    go true true e = eqb-true b 0xff e
    go true false e = refl
    go false y e = refl

pub input_agrees : (σ : Structure) (b : ℕ) → crate_input_of b ≡ input_from (input_of σ b)
unfolding crate_input_of input_of
input_agrees σ b = through input_from (bit b 7) (digital (since4 σ)) refl
  where
    last : b / 2 ^ 0 % 2 ≡ digits b 0 4 / 2 ^ 0 % 2
    last = omega arith

    digital : (t : Bool) → CrateInput.Digital (bit b 0)
        ≡ input_from (cond t (VideoInput.Interface (depth_of (digits b 4 3)) (digits b 0 4)) (VideoInput.Digital (bit b 0)))
    digital true = ap (λ (n : ℕ). CrateInput.Digital (eqb n 1)) last
    digital false = refl

-- the literals 10 and 100
ten : f10 ≡ whole 10
unfolding of_bits of_int
ten = refl

hundred : f100 ≡ whole 100
unfolding of_bits of_int
hundred = refl

-- centimetres, stored as such
cm_agrees : (v : ℕ) → v < 256 → whole v ≡ over (v * 10) f10
cm_agrees v h = sym (quotient_whole v 10 (omega arith) (omega arith) (omega arith)) ∙ ap (over (v * 10)) (sym ten)

pub size_agrees : (σ : Structure) (w h : ℕ) → w < 256 → h < 256 → size_of w h ≡ size_from (image_of σ w h)
unfolding size_of image_of
size_agrees σ w h l m = go (eqb w 0) (eqb h 0) (since4 σ)
  where
    stored : CrateSize
    stored = record { width = whole w; height = whole h }

    mm : Size
    mm = record { width = w * 10; height = h * 10 }

    alone : ℕ → ℕ → Bool → ImageSize
    alone w h z = cond z (ImageSize.Ratio (record { width = w; height = h })) ImageSize.None

    go : (a b z : Bool)
        → cond (a || b) None (Some stored)
        ≡ size_from (cond a (cond b ImageSize.None (alone 100 (h + 99) z)) (cond b (alone (w + 99) 100 z) (ImageSize.Some mm)))
    go true true z = refl
    go true false true = refl
    go true false false = refl
    go false true true = refl
    go false true false = refl
    go false false z = λ i. Some (record { width = cm_agrees w l i; height = cm_agrees h m i })

-- a byte and 100, in hundredths
pub hundredths_agree : (v : ℕ) → v < 256 → div binary32 (add binary32 (whole v) f100) f100 ≡ over (v + 100) f100
hundredths_agree v h = ap (λ x. div binary32 x f100) (ap (add binary32 (whole v)) hundred ∙ sum_whole v 100 (omega arith) (omega arith))

pub gamma_agrees : (v : ℕ) → v < 256 → crate_gamma_of v ≡ gamma_from (gamma_of v)
unfolding crate_gamma_of gamma_of
gamma_agrees v h = through gamma_from (eqb v 0xff) refl (ap Some (hundredths_agree v h))

type_agrees : (n : ℕ) → kind_of n ≡ type_from (type_of n)
type_agrees n = through_code type_from n refl refl refl refl

-- encodings by their code
kind_agrees : (encoded : Bool) (n : ℕ) → n < 4 → kind_of n ≡ kind_from (standard_kind_of encoded n)
kind_agrees false n h = type_agrees n
kind_agrees true zero h = refl
kind_agrees true (suc zero) h = refl
kind_agrees true (suc (suc zero)) h = refl
kind_agrees true (suc (suc (suc zero))) h = refl
kind_agrees true (suc (suc (suc (suc n)))) h = absurd (omega arith)

pub features_agree : (input : VideoInput) (b : ℕ) → dpms_of b ≡ features_from (features_of input b)
unfolding dpms_of features_of
features_agree input b = λ i. record {
  standby = bit b 7;
  suspend = bit b 6;
  lowpower = bit b 5;
  kind = kind_agrees (tells_interface input) (digits b 3 2) (omega arith) i;
  srgb = bit b 2;
  preferred = bit b 1;
  gtf = bit b 0;
}

-- ---- a pair

-- code 0 is 16:10, unless the structure has 1:1 for it
ratio_agrees : (σ : Structure) (n : ℕ) → (σ ≡ Structure.Below3 → eqb n 0 ≡ false) → crate_ratio_of n ≡ ratio_from (ratio_of σ n)
unfolding of_bits of_int
ratio_agrees Structure.Below3 n h = rw (h refl) (through ratio_from (eqb n 1) refl (through ratio_from (eqb n 2) refl refl))
ratio_agrees Structure.From3 n h = through_code ratio_from n refl refl refl refl
ratio_agrees Structure.From4 n h = through_code ratio_from n refl refl refl refl

pub pair_agrees : (σ : Structure) (low high : ℕ) → (σ ≡ Structure.Below3 → code_zero low high ≡ false)
    → listed (crate_pair_of low high) ≡ map pair_from (of_pair (pair_of σ low high))
unfolding crate_pair_of standard_timing_of pair_of
pair_agrees σ low high h = go (eqb low 1 && eqb high 1) h
  where
    alone : (b : Bool) → (b && true) ≡ false → b ≡ false
    alone true e = e
    alone false e = refl

    crate : Option CrateTiming
    crate = Some (standard_timing_of low high)

    standard : Option StandardTiming
    standard = Some (record { width = (low + 31) * 8; ratio = ratio_of σ (digits high 6 2); rate = digits high 0 6 + 60 })

    go : (one : Bool) → (σ ≡ Structure.Below3 → (eqb (digits high 6 2) 0 && not one) ≡ false)
        → listed (cond one None crate) ≡ map pair_from (of_pair (cond one None standard))
    go true h = refl
    go false h =
        ap (λ x. record { ratio = x; width = (low + 31) * 8; rate = digits high 0 6 + 60 } ∷ [])
        (ratio_agrees σ (digits high 6 2) (λ e. alone (eqb (digits high 6 2) 0) (h e)))

-- ---- a white point

pub point_agrees : (index low x y g : ℕ) → eqb index 0 ≡ false → eqb g 0xff ≡ false → g < 256
    → crate_point_of index low x y g ∷ [] ≡ map point_from (of_point (point_of index low x y g))
unfolding crate_point_of point_of gamma_of
point_agrees index low x y g used given h =
    rw (used, given)
    (λ i. record { index = index; x = coordinate x low 2; y = coordinate y low 0; gamma = hundredths_agree g h i } ∷ [])

-- ---- range limits

-- where the offsets add nothing
pub limits_agree : (σ : Structure) (b4 b5 b6 b7 b8 b9 : ℕ) → (since4 σ ≡ true → (digits b4 0 2 < 2) × (digits b4 2 2 < 2))
    → crate_limits_of b5 b6 b7 b8 b9 ≡ limits_from (limits_of (offsets_of σ b4) b5 b6 b7 b8 b9)
unfolding crate_limits_of limits_of
limits_agree σ b4 b5 b6 b7 b8 b9 few = go (since4 σ) refl
  where
    go : (z : Bool) → since4 σ ≡ z → crate_limits_of b5 b6 b7 b8 b9 ≡ limits_from (limits_of (offsets_of σ b4) b5 b6 b7 b8 b9)
    go true e =
        let v = (few e).0 in
        let h = (few e).1 in
        rw (e, lt-ltb (digits b4 0 2) 2 v, lt-ltb (digits b4 2 2) 2 h, ne_eqb (digits b4 0 2) 3 (λ k. omega arith), ne_eqb (digits b4 2 2) 3 (λ k. omega arith)) (simp add-zero)
    go false e = rw e (simp add-zero)

-- ---- the sync of a timing

line_agrees : (one : Bool) → crate_line_of one ≡ line_from (line_of one)
line_agrees true = refl
line_agrees false = refl

below_two : (n : ℕ) → ltb n 2 ≡ (eqb n 0 || eqb n 1)
below_two zero = refl
below_two (suc zero) = refl
below_two (suc (suc n)) = rw (le-ltb (suc (suc n)) 2 (omega arith), ne_eqb (suc (suc n)) 0 (λ e. omega arith), ne_eqb (suc (suc n)) 1 (λ e. omega arith))

pub sync_agrees : (n : ℕ) (two one : Bool) → crate_sync_by n two one ≡ sync_from (sync_by n two one)
sync_agrees n two one = rw below_two (go (eqb n 0) (eqb n 1) (eqb n 2))
  where
    go : (a b c : Bool)
        → cond (a || b) (SyncType.Composite two (crate_line_of one))
        (cond c (SyncType.Composite two (CrateLine.Digital (polarity_of one))) (SyncType.Separate (polarity_of one) (polarity_of two)))
        ≡ sync_from (cond a (Sync.AnalogComposite two (line_of one)) (cond b (Sync.BipolarAnalogComposite two (line_of one))
        (cond c (Sync.DigitalComposite two (polarity_of one)) (Sync.DigitalSeparate (polarity_of one) (polarity_of two)))))
    go true b c = ap (SyncType.Composite two) (line_agrees one)
    go false true c = ap (SyncType.Composite two) (line_agrees one)
    go false false c = through sync_from c refl refl
