-- How the reading of a block ends: accepted, or refused by a number and a place.
use Rattle.std.specs.Prelude.{Result}
use Rattle.steps.specs.declared.Refusal.{Refusal}

abbrev pub Verdict : Type 0
Verdict = Result Unit Refusal
