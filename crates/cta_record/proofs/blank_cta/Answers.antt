-- `cta_record::blank_cta` meets its contract: by computation. Assumes nothing.
use mathlib.Core.Path.{refl}
use Rattle.cta_record.specs.Filler.{blank}
use Rattle.cta_record.proofs.blank_cta.Goals as goal

pub returns : goal.returns
unfolding blank
returns c = refl
