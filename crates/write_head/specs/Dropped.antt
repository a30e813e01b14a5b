-- Laws: the digits of the front that the reading drops are 0.
use Rattle.std.specs.Prelude.{◌+◌, ◌*◌, ◌%◌, ◌<◌, ◌≡◌, Bool}
use native.Mathlib.Omega.{arith}
use Rattle.bits.specs.Bytes.{◌!◌}
use Rattle.bits.specs.Fields.{digits}
use Rattle.standard_record.specs.declared.VideoInput.TheVariants.{Digital}
use Rattle.standard_record.specs.declared.ImageSize.TheVariants as Image
use Rattle.write_leaf.specs.Bytes.{digit}
use Rattle.write_head.specs.Head.{maker_word}
use Rattle.write_head.specs.Front.{Front, front_bytes}
use Rattle.write_head.specs.Heads.{word_whole}

module _ (f : Front) where
  -- the first of the maker's word
  pub before_letters : front_bytes f ! 8 < 128
  unfolding front_bytes
  before_letters = omega arith

  -- the code of what is no letter
  pub no_letters : (f.product.maker.0 ≡ 0 → digits (front_bytes f ! 9 + 256 * front_bytes f ! 8) 10 5 ≡ 0)
      × (f.product.maker.1 ≡ 0 → digits (front_bytes f ! 9 + 256 * front_bytes f ! 8) 5 5 ≡ 0)
      × (f.product.maker.2 ≡ 0 → digits (front_bytes f ! 9 + 256 * front_bytes f ! 8) 0 5 ≡ 0)
  unfolding front_bytes
  no_letters = rw (word_whole (maker_word f.product.maker) (omega arith)) (omega arith)

  -- a digital input, whole
  pub digital_input : (dfp : Bool) → f.display.input ≡ Digital dfp → front_bytes f ! 20 ≡ 128 + digit dfp
  unfolding front_bytes
  digital_input dfp e = rw e

  -- both bytes of a size that is not there
  pub no_size : f.display.size ≡ Image.None → (front_bytes f ! 21 ≡ 0) × (front_bytes f ! 22 ≡ 0)
  unfolding front_bytes
  no_size e = rw e (omega arith)

  -- a ratio of 100:100 is a width
  pub even_ratio : f.display.size ≡ Image.Ratio (record { width = 100; height = 100 }) → (front_bytes f ! 21 ≡ 1) × (front_bytes f ! 22 ≡ 0)
  unfolding front_bytes
  even_ratio e = rw e (omega arith)

  -- digits 0 to 6 of the last byte
  pub behind_flags : front_bytes f ! 37 % 128 ≡ 0
  unfolding front_bytes
  behind_flags = omega arith
