-- `cta_reading::read_cta` meets its contract: each arm by what is judged before the data blocks. Assumes nothing.
use mathlib.Core.Path.{sym, ◌∙◌}
use Rattle.cta_reading.specs.Cta.{cta_of}
use Rattle.cta_reading.proofs.Judged.{head_of}
use Rattle.cta_reading.proofs.read_cta.Goals as goal

pub read_blocks-requires : goal.read_blocks-requires
read_blocks-requires c = let e = sym c.before_blocks.ensures ∙ c.in-Ok.is in ((head_of _ e).size, e)

pub returns-in-Err : goal.returns-in-Err
unfolding cta_of
returns-in-Err c =
    rw (c.refuse.ensures, sym c.before_blocks.ensures ∙ c.in-Err.is)
