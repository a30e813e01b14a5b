-- Laws: the last byte of a timing is read as what it was made of.
use Rattle.std.specs.Prelude.{ℕ, ◌+◌, ◌*◌, ◌/◌, ◌%◌, ◌<◌, ◌≤◌, Bool, true, false, ◌≡◌, refl}
use Rattle.std.proofs.Math.Nat.{add-mul-mod_self_left}
use Rattle.std.proofs.Common.{arith}
use Rattle.bits.specs.Fields.{digits, bit}
use Rattle.timing.specs.Rest.{stereo_of}
use Rattle.timing.specs.declared.SyncPolarity.TheVariants.{Positive, Negative}
use Rattle.timing.specs.declared.StereoType.{StereoType}
use Rattle.timing.specs.declared.StereoType.TheVariants as Stereo
use Rattle.standard_record.specs.declared.SyncLine.TheVariants.{Green, RGB}
use Rattle.standard_record.specs.declared.Sync.{Sync}
use Rattle.standard_record.specs.declared.Sync.TheVariants.{AnalogComposite, BipolarAnalogComposite, DigitalComposite, DigitalSeparate}
use Rattle.standard_timing.specs.Timing.{sync_of}
use Rattle.write_leaf.specs.Bytes.{digit}
use Rattle.write_leaf.specs.Digits.{digit_under, digit_back}
use Rattle.write_timing.specs.Timing.{stereo_code, sync_code, last_of}

abbrev StereoKnown : StereoType → Type 0
StereoKnown s = (stereo_code s < 128) × (stereo_code s % 32 < 2) × (stereo_of (stereo_code s) ≡ s)

stereo_known : (s : StereoType) → StereoKnown s
stereo_known Stereo.None = (omega arith, omega arith, refl)
stereo_known Stereo.SequentialRightSync = (omega arith, omega arith, refl)
stereo_known Stereo.SequentialLeftSync = (omega arith, omega arith, refl)
stereo_known Stereo.InterleavedLinesRightEven = (omega arith, omega arith, refl)
stereo_known Stereo.InterleavedLinesLeftEven = (omega arith, omega arith, refl)
stereo_known Stereo.Interleaved4Way = (omega arith, omega arith, refl)
stereo_known Stereo.SideBySide = (omega arith, omega arith, refl)

abbrev SyncKnown : Sync → Type 0
SyncKnown y = (sync_code y < 32) × (sync_code y % 2 ≡ 0) × (sync_of (sync_code y) ≡ y)

sync_known : (y : Sync) → SyncKnown y
sync_known (AnalogComposite true Green) = (omega arith, refl, refl)
sync_known (AnalogComposite true RGB) = (omega arith, refl, refl)
sync_known (AnalogComposite false Green) = (omega arith, refl, refl)
sync_known (AnalogComposite false RGB) = (omega arith, refl, refl)
sync_known (BipolarAnalogComposite true Green) = (omega arith, refl, refl)
sync_known (BipolarAnalogComposite true RGB) = (omega arith, refl, refl)
sync_known (BipolarAnalogComposite false Green) = (omega arith, refl, refl)
sync_known (BipolarAnalogComposite false RGB) = (omega arith, refl, refl)
sync_known (DigitalComposite true Negative) = (omega arith, refl, refl)
sync_known (DigitalComposite true Positive) = (omega arith, refl, refl)
sync_known (DigitalComposite false Negative) = (omega arith, refl, refl)
sync_known (DigitalComposite false Positive) = (omega arith, refl, refl)
sync_known (DigitalSeparate Negative Negative) = (omega arith, refl, refl)
sync_known (DigitalSeparate Negative Positive) = (omega arith, refl, refl)
sync_known (DigitalSeparate Positive Negative) = (omega arith, refl, refl)
sync_known (DigitalSeparate Positive Positive) = (omega arith, refl, refl)

-- three parts that do not touch each other's digits: digit 7; 6, 5 and 0; 4 to 1
pub record Apart (i a b : ℕ) : Type 0 where
  pub hi : i ≤ 1
  pub ha : a < 128
  pub hr : a % 32 < 2
  pub hb : b < 32
  pub he : b % 2 ≡ 0

module _ (i a b : ℕ) (apart : Apart i a b) where
  top : digits (i * 128 + a + b) 7 1 ≡ i
  top = omega arith

  six : digits (i * 128 + a + b) 6 1 ≡ digits a 6 1
  six =
      let n : (i * 128 + a + b) / 32 ≡ i * 4 + a / 32 = omega arith in
      let m : (i * 128 + a + b) / 64 ≡ a / 64 + 2 * i = omega arith in
      rw m (add-mul-mod_self_left (a / 64) 2 i)

  five : digits (i * 128 + a + b) 5 1 ≡ digits a 5 1
  five = omega arith

  none : digits (i * 128 + a + b) 0 1 ≡ digits a 0 1
  none = omega arith

  kind : digits (i * 128 + a + b) 3 2 ≡ digits b 3 2
  kind = omega arith

  two : digits (i * 128 + a + b) 2 1 ≡ digits b 2 1
  two = omega arith

  one : digits (i * 128 + a + b) 1 1 ≡ digits b 1 1
  one = omega arith

module _ (i : Bool) (s : StereoType) (y : Sync) where
  pub last_parts : Apart (digit i) (stereo_code s) (sync_code y)
  last_parts = record {
    hi = digit_under i;
    ha = (stereo_known s).0;
    hr = (stereo_known s).1;
    hb = (sync_known y).0;
    he = (sync_known y).1;
  }

  pub last_interlaced : bit (last_of i s y) 7 ≡ i
  last_interlaced = rw (top _ _ _ last_parts) (digit_back i)

  pub last_stereo : stereo_of (last_of i s y) ≡ s
  last_stereo = rw (six _ _ _ last_parts, five _ _ _ last_parts, none _ _ _ last_parts) (stereo_known s).2

  pub last_sync : sync_of (last_of i s y) ≡ y
  last_sync = rw (kind _ _ _ last_parts, two _ _ _ last_parts, one _ _ _ last_parts) (sync_known y).2
