-- Law: the digit that the reading drops is 0.
use Rattle.std.specs.Prelude.{◌%◌, ◌≡◌}
use Rattle.std.proofs.Common.{arith}
use Rattle.bits.specs.Bytes.{◌!◌}
use Rattle.timing.specs.declared.StereoType.TheVariants as Stereo
use Rattle.standard_record.specs.declared.DetailedTiming.{DetailedTiming}
use Rattle.write_timing.specs.Timing.{timing_bytes}
use Rattle.write_timing.specs.Last.{last_parts}

-- digit 0 of the last byte says nothing where there is no stereo
pub no_stereo : (d : DetailedTiming) → d.stereo ≡ Stereo.None → timing_bytes d ! 17 % 2 ≡ 0
unfolding timing_bytes
no_stereo d e = let last = last_parts d.interlaced d.stereo d.sync in rw e (omega arith)
