-- The tests that the code makes of the fields of one byte or two.
use Rattle.std.specs.Prelude.{ℕ, ◌+◌, ◌/◌, ◌%◌, Bool, true, ◌&&◌, not, cond, eqb, leb}
use Rattle.timing.specs.declared.Size.{Size}
use Rattle.standard_record.specs.declared.Maker.{Maker}
use Rattle.standard_record.specs.declared.Week.{Week}
use Rattle.standard_record.specs.declared.Week.TheVariants.{Made, ModelYear}
use Rattle.standard_record.specs.declared.Depth.{Depth}
use Rattle.standard_record.specs.declared.VideoInput.{VideoInput}
use Rattle.standard_record.specs.declared.VideoInput.TheVariants.{Analog, Digital, Interface}
use Rattle.standard_record.specs.declared.ImageSize.{ImageSize}
use Rattle.standard_record.specs.declared.ImageSize.TheVariants as Image
use Rattle.standard_record.specs.declared.Ratio.{Ratio}
use Rattle.standard_record.specs.declared.Kind.{Kind}
use Rattle.standard_record.specs.declared.Kind.TheVariants.{Typed, Encodings}
use Rattle.standard_parts.specs.Structure.{since4}
use Rattle.standard_parts.specs.declared.Structure.{Structure}
use Rattle.write_leaf.specs.Bytes.{digit}

-- the bytes are read again, and each letter compared
abbrev pub same_maker : Maker → Maker → Bool
same_maker a b = eqb (digit (eqb a.0 b.0) + digit (eqb a.1 b.1) + digit (eqb a.2 b.2)) 3

-- from revision 4 on ff is no week, and a model year has it
abbrev pub week_fits : Structure → Week → Bool
week_fits σ (Made week) = not (since4 σ && eqb week 0xff)
week_fits σ ModelYear = since4 σ

-- n is one of low, low + 1, .. high
abbrev pub between : ℕ → ℕ → ℕ → Bool
between low high n = eqb (digit (leb low n) + digit (leb n high)) 2

abbrev pub depth_fits : Depth → Bool
depth_fits Depth.Undefined = true
depth_fits (Depth.Bits n) = eqb (digit (between 6 16 n) + digit (eqb (n % 2) 0)) 2
depth_fits Depth.Reserved = true

-- the level has two digits, the interface four
abbrev pub input_fits : Structure → VideoInput → Bool
input_fits σ (Digital dfp) = not (since4 σ)
input_fits σ (Interface depth code) = eqb (digit (since4 σ) + digit (depth_fits depth) + digit (leb code 15)) 3
input_fits σ (Analog level setup sync) = leb level 3

-- 0 exactly where both are tens and at most 2550
abbrev pub size_excess : Size → ℕ
size_excess s = s.width % 10 + s.height % 10 + s.width / 2551 + s.height / 2551

-- 100 down, or else 100 across
abbrev pub ratio_fits : Ratio → Bool
ratio_fits r = cond (eqb r.height 100) (between 100 354 r.width) (eqb (digit (eqb r.width 100) + digit (between 100 354 r.height)) 2)

-- a size that is there is a centimetre at least, both ways
abbrev pub image_fits : Structure → ImageSize → Bool
image_fits σ Image.None = true
image_fits σ (Image.Some s) = eqb (digit (leb 10 s.width) + digit (leb 10 s.height) + digit (eqb (size_excess s) 0)) 3
image_fits σ (Image.Ratio r) = eqb (digit (since4 σ) + digit (ratio_fits r)) 2

-- encodings where they are told, and a type elsewhere
abbrev pub kind_fits : Bool → Kind → Bool
kind_fits encoded (Typed t) = not encoded
kind_fits encoded (Encodings ycrcb444 ycrcb422) = encoded
