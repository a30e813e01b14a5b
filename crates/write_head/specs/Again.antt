-- Law: a front that any block is read as, is read from its own bytes.
use Rattle.std.specs.Prelude.{ℕ, ◌+◌, ◌<◌, ◌≡◌, Bool, true, false, ◌&&◌, cond, List, [], ◌∷◌, ◌++◌, eqb}
use Rattle.std.proofs.Common.{ap, subst, arith}
use Rattle.bits.specs.Bytes.{◌!◌}
use Rattle.shared_record.specs.declared.Version.{Version}
use Rattle.standard_record.specs.declared.Product.{Product}
use Rattle.standard_record.specs.declared.Week.{Week}
use Rattle.standard_record.specs.declared.Week.TheVariants.{Made, ModelYear}
use Rattle.standard_record.specs.declared.VideoInput.{VideoInput}
use Rattle.standard_record.specs.declared.VideoInput.TheVariants.{Analog, Digital, Interface}
use Rattle.standard_record.specs.declared.ImageSize.{ImageSize}
use Rattle.standard_record.specs.declared.ImageSize.TheVariants as Image
use Rattle.standard_record.specs.declared.Features.{Features}
use Rattle.standard_parts.specs.Structure.{structure_of, since4}
use Rattle.standard_parts.specs.Head.{week_of}
use Rattle.standard_parts.specs.declared.Structure.{Structure}
use Rattle.standard_head.specs.Head.{structure_in, product_in}
use Rattle.write_leaf.specs.Bytes.{Bytes, low}
use Rattle.write_leaf.specs.Digits.{digit_under}
use Rattle.write_leaf.specs.Leaf.{Again, BothBytes}
use Rattle.write_leaf.specs.Again.{again, each_byte, each_before}
use Rattle.write_parts.specs.Points.{writes_gamma}
use Rattle.write_parts.specs.Again.{gamma_is_byte}
use Rattle.write_head.specs.Head.{week_byte, input_byte, image_bytes, features_byte}
use Rattle.write_head.specs.Flags.{flag_bytes}
use Rattle.write_head.specs.Front.{Front, header_bytes, product_bytes, display_bytes, color_bytes, front_bytes, ReadsFront}
use Rattle.write_head.specs.Heads.{writes_maker, depth_under, writes_input, writes_image, kind_under, writes_features}
use Rattle.write_head.specs.Totals.{writes_flags}
use Rattle.write_head.specs.Fronts.{writes_front}

-- ---- the bytes are bytes

input_is_byte : (v : VideoInput) → input_byte v < 256
input_is_byte (Digital dfp) = omega (arith, digit_under dfp)
input_is_byte (Interface d code) = omega (arith, depth_under d)
input_is_byte (Analog level setup y) =
    omega (arith, digit_under setup, digit_under y.serrated, digit_under y.green, digit_under y.composite, digit_under y.separate)

image_are_bytes : (z : ImageSize) → BothBytes (image_bytes z)
image_are_bytes Image.None = omega arith
image_are_bytes (Image.Some s) = omega arith
image_are_bytes (Image.Ratio r) = go (eqb r.height 100)
  where
    go : (z : Bool) → BothBytes (cond z (low (r.width + 157), 0) (0, low (r.height + 157)))
    go true = omega arith
    go false = omega arith

features_is_byte : (f : Features) → features_byte f < 256
features_is_byte f =
    omega (
      arith,
      digit_under f.standby,
      digit_under f.suspend,
      digit_under f.lowpower,
      kind_under f.kind,
      digit_under f.srgb,
      digit_under f.preferred,
      digit_under f.gtf,
    )

-- of a week that is read
week_is_byte : (σ : Structure) (w : Week) (b : ℕ) → b < 256 → week_of σ b ≡ w → week_byte w < 256
week_is_byte σ w b h e = subst (λ w. week_byte w < 256) e (go (since4 σ && eqb b 0xff))
  where
    go : (z : Bool) → week_byte (cond z ModelYear (Made b)) < 256
    go true = omega arith
    go false = h

-- where what is copied is a byte
front_are_bytes : (f : Front) → week_byte f.product.week < 256 → f.version.version < 256 → f.version.revision < 256 → Bytes (front_bytes f)
unfolding front_bytes
front_are_bytes f week version revision =
    let flags = flag_bytes f.established in
    let input = input_is_byte f.display.input in
    let size = image_are_bytes f.display.size in
    let gamma = gamma_is_byte f.display.gamma in
    let features = features_is_byte f.display.features in
    let middle = f.version.version ∷ f.version.revision ∷ display_bytes f.display [] in
    let last = color_bytes f.basic (flags.0 ∷ flags.1 ∷ flags.2 ∷ []) in
    each_before (header_bytes (product_bytes f.product [])) (middle ++ last) (omega arith)
    (each_before middle last (omega arith) (each_byte last (omega arith)))

-- ---- the front

pub front_again : (f : Front) (s : List ℕ) → Bytes s → ReadsFront s f → Again Bytes ReadsFront front_bytes f
unfolding product_in
front_again f s b r =
    let code = ap (λ (x : Product). x.code) r.product in
    let serial = ap (λ (x : Product). x.serial) r.product in
    let same : structure_in s ≡ structure_of f.version.revision = ap (λ (x : Version). structure_of x.revision) r.version in
    let week = rw same at (ap (λ (x : Product). x.week) r.product) in
    let version = ap (λ (x : Version). x.version) r.version in
    let revision = ap (λ (x : Version). x.revision) r.version in
    again (writes_front (record {
      code = omega (arith, b 10, b 11);
      serial = omega (arith, b 12, b 13, b 14, b 15);
      maker = writes_maker f.product.maker;
      input = writes_input _ f.display.input;
      image = writes_image _ f.display.size;
      gamma = writes_gamma f.display.gamma;
      features = writes_features f.display.input f.display.features;
      flags = writes_flags f.established;
    })) s b r (front_are_bytes f (week_is_byte (structure_of f.version.revision) f.product.week (s ! 16) (b 16) week) (omega (arith, b 18)) (omega (arith, b 19)))
