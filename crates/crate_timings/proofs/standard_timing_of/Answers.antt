-- `crate_timings::standard_timing_of` meets its contract, field by field. Assumes nothing.
use mathlib.Core.Path.{ap, ◌∙◌}
use Prim.Native.Nat.{◌+◌, ◌*◌}
use Rattle.crate_record.specs.Single.{ratio_of}
use Rattle.crate_timings.specs.Pairs.{standard_timing_of}
use Rattle.crate_timings.proofs.standard_timing_of.Goals as goal

pub returns : goal.returns
unfolding standard_timing_of
returns c = λ i.
    record {
      ratio = (c.ratio_of.ensures ∙ ap ratio_of c.digits.ensures) i;
      width = (c.args.low + 31) * 8;
      rate = c.digits-2.ensures i + 60;
    }
