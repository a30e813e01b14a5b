-- Laws: the bytes of a timing are read as it where the test is passed, and it is passed where any bytes are.
use Rattle.std.specs.Prelude.{ℕ, ◌+◌, ◌*◌, ◌/◌, ◌%◌, ◌<◌, Bool, true, false, cond, List, ◌≡◌, refl, eqb, None, Option, Some}
use Rattle.std.proofs.Common.{subst, arith, eqb-true, eq-eqb, ne_eqb}
use Rattle.std.proofs.lemmas.Bool.{eqb-false}
use Rattle.timing.specs.declared.Size.{Size}
use Rattle.timing.specs.declared.Border.{Border}
use Rattle.timing.specs.declared.StereoType.{StereoType}
use Rattle.timing.specs.declared.Across.{Across}
use Rattle.timing.specs.declared.Down.{Down}
use Rattle.standard_record.specs.declared.Sync.{Sync}
use Rattle.standard_record.specs.declared.DetailedTiming.{DetailedTiming}
use Rattle.standard_timing.specs.Timing.{timed_by, clock_in, across_in, down_in, timing_in}
use Rattle.bits.specs.Bytes.{◌!◌}
use Rattle.write_leaf.specs.Bytes.{Bytes, low}
use Rattle.write_timing.specs.Timing.{timing_bytes, Reads, WritesTiming, excess, fits_timing}
use Rattle.write_leaf.specs.Digits.{upper_first, upper_second}
use Rattle.write_timing.specs.Axes.{AcrossFits, DownFits, AcrossReadFits, DownReadFits, across_back, down_back, across_fits, down_fits}
use Rattle.write_timing.specs.Last.{last_interlaced, last_stereo, last_sync}

-- each field fits its digits
record Fits (d : DetailedTiming) : Type 0 where
  clock : 0 < d.clock
  whole : d.clock % 10000 ≡ 0
  small : d.clock < 655360000
  across : AcrossFits d.across
  down : DownFits d.down
  width : d.size.width < 4096
  height : d.size.height < 4096
  left : d.border.across.0 < 256
  top : d.border.down.0 < 256

-- the test, by its two Bools
tested : (z e : Bool) → cond z false e ≡ true → (z ≡ false) × (e ≡ true)
tested true e h = (cc, cc)
tested false e h = (refl, h)

passed_if : (d : DetailedTiming) → Fits d → fits_timing d ≡ true
passed_if d f = rw (ne_eqb d.clock 0 (omega arith)) (eq-eqb (excess d) 0 (omega arith))

sound : (d : DetailedTiming) → Fits d → Reads (timing_bytes d) d
unfolding timing_bytes timing_in
sound d f =
    let stored : low (d.clock / 10000) + 256 * low (d.clock / 10000 / 256) ≡ d.clock / 10000 = omega arith in
    let hertz : d.clock / 10000 * 10000 ≡ d.clock = omega arith in
    let left : low d.border.across.0 ≡ d.border.across.0 = omega arith in
    let top : low d.border.down.0 ≡ d.border.down.0 = omega arith in
    record {
      clock = omega arith;
      is = rw (
        across_back d.across d.down f.across,
        down_back d.across d.down f.down,
        stored,
        hertz,
        upper_first d.size.width d.size.height f.width,
        upper_second d.size.width d.size.height f.height,
        left,
        top,
        last_interlaced d.interlaced d.stereo d.sync,
        last_stereo d.interlaced d.stereo d.sync,
        last_sync d.interlaced d.stereo d.sync,
      );
    }

-- ---- what is read fits

abbrev TimedFits : Option DetailedTiming → Type 0
TimedFits (Some d) = Fits d
TimedFits None = Unit

module _ (clock : ℕ) (size : Size) (border : Border) (interlaced : Bool) (stereo : StereoType) (sync : Sync) where
  timed_fits : (h : Option Across) (v : Option Down) → AcrossReadFits h → DownReadFits v
      → 0 < clock → clock % 10000 ≡ 0 → clock < 655360000 → size.width < 4096 → size.height < 4096
      → border.across.0 < 256 → border.down.0 < 256
      → TimedFits (timed_by h v clock size border interlaced stereo sync)
  timed_fits None v fh fv = λ c w k x y l t. tt
  timed_fits (Some h) None fh fv = λ c w k x y l t. tt
  timed_fits (Some h) (Some v) fh fv =
      λ c w k x y l t. record { clock = c; whole = w; small = k; across = fh; down = fv; width = x; height = y; left = l; top = t }

read_fits : (t : List ℕ) → Bytes t → 0 < clock_in t → TimedFits (timing_in t)
unfolding timing_in
read_fits t b c =
    let (b0, b1) : (t ! 0 < 256) × (t ! 1 < 256) = (b 0, b 1) in
    timed_fits _ _ _ _ _ _ (across_in t) (down_in t)
    (across_fits (t ! 2) (t ! 3) (t ! 4) (t ! 8) (t ! 9) (t ! 11) (b 2) (b 3) (b 8) (b 9))
    (down_fits (t ! 5) (t ! 6) (t ! 7) (t ! 10) (t ! 11) (b 5) (b 6))
    (omega arith) (omega arith) (omega arith) (omega (arith, b 12)) (omega (arith, b 13)) (b 15) (b 16)

complete : (d : DetailedTiming) (t : List ℕ) → Bytes t → Reads t d → Fits d
complete d t b r = subst TimedFits r.is (read_fits t b r.clock)

pub writes_timing : (d : DetailedTiming) → WritesTiming d (fits_timing d) (timing_bytes d)
writes_timing d = record {
  made = refl;
  sound = λ e. sound d (if_passed d e);
  complete = λ t b r. passed_if d (complete d t b r);
}
  where
    if_passed : (d : DetailedTiming) → fits_timing d ≡ true → Fits d
    if_passed d h =
        let p = tested (eqb d.clock 0) (eqb (excess d) 0) h in
        let nonzero = eqb-false d.clock 0 p.0 in
        let none = eqb-true (excess d) 0 p.1 in
        omega arith
