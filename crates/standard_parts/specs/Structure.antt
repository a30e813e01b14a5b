-- The structure of a block: what its revision, byte 19, decides.
use Rattle.std.specs.Prelude.{ℕ, Bool, true, false, cond, ltb}
use Rattle.standard_parts.specs.declared.Structure.{Structure}
use Rattle.standard_parts.specs.declared.Structure.TheVariants.{Below3, From3, From4}

abbrev pub structure_of : ℕ → Structure
structure_of revision = cond (ltb revision 3) Below3 (cond (ltb revision 4) From3 From4)

-- whether it is 1.4 or above
abbrev pub since4 : Structure → Bool
since4 Below3 = false
since4 From3 = false
since4 From4 = true
