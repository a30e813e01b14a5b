-- The answer of `go_on`, as the definition has it.
use Rattle.steps.specs.Leaves.{ended}
use Rattle.crate_end.specs.Ends.{Went}
use Rattle.crate_end.specs.declared.Came.{Came}

abbrev pub of_came : Came → Went
of_came c = record { piece = c.piece; at = c.at; end = ended tt c.end }
