-- The head of a block s, by fixed offsets.
use Rattle.std.specs.Prelude.{ℕ, ◌+◌, ◌*◌, List}
use Rattle.bits.specs.Fields.{digits}
use Rattle.bits.specs.Bytes.{◌!◌}
use Rattle.shared_record.specs.declared.Version.{Version}
use Rattle.standard_record.specs.declared.Product.{Product}
use Rattle.standard_record.specs.declared.VideoInput.{VideoInput}
use Rattle.standard_record.specs.declared.Display.{Display}
use Rattle.standard_record.specs.declared.Chromaticity.{Chromaticity}
use Rattle.standard_record.specs.declared.Chromaticities.{Chromaticities}
use Rattle.standard_parts.specs.Structure.{structure_of}
use Rattle.standard_parts.specs.Head.{maker_of, week_of, input_of, image_of, gamma_of, features_of}
use Rattle.standard_parts.specs.Color.{chromaticity_of}
use Rattle.standard_parts.specs.declared.Structure.{Structure}

-- by the revision
abbrev pub structure_in : List ℕ → Structure
structure_in s = structure_of (s ! 19)

unfoldable pub product_in : List ℕ → Product
product_in s = record {
  maker = maker_of (s ! 8) (s ! 9);
  code = s ! 10 + 256 * s ! 11;
  serial = (s ! 12 + 256 * s ! 13) + 65536 * (s ! 14 + 256 * s ! 15);
  week = week_of (structure_in s) (s ! 16);
  year = s ! 17 + 1990;
}

abbrev pub version_in : List ℕ → Version
version_in s = record { version = s ! 18; revision = s ! 19 }

abbrev pub input_in : List ℕ → VideoInput
input_in s = input_of (structure_in s) (s ! 20)

abbrev pub display_in : List ℕ → Display
display_in s = record {
  input = input_in s;
  size = image_of (structure_in s) (s ! 21) (s ! 22);
  gamma = gamma_of (s ! 23);
  features = features_of (input_in s) (s ! 24);
}

-- x at k, y behind it
abbrev pub chromaticity_at : ℕ → List ℕ → ℕ → Chromaticity
chromaticity_at low s k = chromaticity_of low (s ! k) (s ! (k + 1))

-- the low digits of red and blue are the upper four of their byte
unfoldable pub colors_in : List ℕ → Chromaticities
colors_in s = record {
  red = chromaticity_at (digits (s ! 25) 4 4) s 27;
  green = chromaticity_at (s ! 25) s 29;
  blue = chromaticity_at (digits (s ! 26) 4 4) s 31;
  white = chromaticity_at (s ! 26) s 33;
}
