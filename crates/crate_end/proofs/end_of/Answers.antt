-- `crate_end::end_of` meets its contract: what `go_on` ensures, from the start. Assumes nothing.
use Rattle.std.proofs.Common.{ap, ◌∙◌}
use Rattle.crate_end.specs.Ends.{Went}
use Rattle.crate_end.specs.Whole.{ends_so}
use Rattle.crate_end.proofs.end_of.Goals as goal

pub returns : goal.returns
returns c = ap (λ (w : Went). w.end) c.go_on.ensures ∙ ends_so _
