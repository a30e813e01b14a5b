-- Chromaticities, in 1/1024ths: eight high digits in a byte of their own, the two low ones packed.
use Rattle.std.specs.Prelude.{ℕ, ◌+◌, ◌*◌, cond, eqb, Option, Some, None}
use Rattle.bits.specs.Fields.{digits}
use Rattle.standard_record.specs.declared.Chromaticity.{Chromaticity}
use Rattle.standard_record.specs.declared.WhitePoint.{WhitePoint}
use Rattle.standard_parts.specs.Head.{gamma_of}

-- of the last four digits of `low` the upper two are the low digits of x, the others those of y
abbrev pub chromaticity_of : ℕ → ℕ → ℕ → Chromaticity
chromaticity_of low x y = record { x = digits low 2 2 + 4 * x; y = digits low 0 2 + 4 * y }

-- five bytes of an fb slot; an index of 0 marks a point that is not used
unfoldable pub point_of : ℕ → ℕ → ℕ → ℕ → ℕ → Option WhitePoint
point_of index low x y gamma =
    cond (eqb index 0) None (Some (record { index = index; place = chromaticity_of low x y; gamma = gamma_of gamma }))
