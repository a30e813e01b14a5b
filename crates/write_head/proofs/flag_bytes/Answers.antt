-- `write_head::flag_bytes` meets its contract: what its callees ensure, put into the theorem. Assumes nothing.
use mathlib.Core.Path.{◌∙◌, ap, ap₂}
use Rattle.write_head.specs.Flags.{total, same_list}
use Rattle.write_head.proofs.Flags.{written}
use Rattle.write_head.proofs.flag_bytes.Goals as goal

pub returns : goal.returns
returns c =
    written _ _ (c.total-sum.ensures ∙ ap total c.shown-listed.ensures.0) _ c.established_of-read.ensures _
    (c.same-fits.ensures ∙ ap₂ same_list c.shown.ensures.0 c.shown-listed.ensures.0)
