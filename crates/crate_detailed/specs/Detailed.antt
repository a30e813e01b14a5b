-- A detailed timing, as the source reads it. Bytes have the source's names, cut short: hb is hb_low, hh is h_high, ho is hso_low.
use Rattle.std.specs.Prelude.{ℕ, Bool, true, false, ◌||◌, cond, eqb, ltb, Option, None, Some}
use Rattle.bits.specs.Fields.{digits, bit}
use Rattle.steps.specs.Steps.{Steps, done, refuse, ◌>>=◌}
use Rattle.steps.specs.Leaves.{byte, word}
use Rattle.timing.specs.Axis.{across_of, down_of}
use Rattle.timing.specs.Rest.{clock_of, size_of, border_of, polarity_of, stereo_of}
use Rattle.timing.specs.declared.Across.{Across}
use Rattle.timing.specs.declared.Down.{Down}
use Rattle.timing.specs.declared.Size.{Size}
use Rattle.crate_record.specs.Single.{tenths_of}
use Rattle.crate_record.specs.declared.ImageSize.{ImageSize}
use Rattle.crate_record.specs.declared.SyncLine.{SyncLine}
use Rattle.crate_record.specs.declared.SyncLine.TheVariants.{RGB, Green, Digital}
use Rattle.crate_record.specs.declared.SyncType.{SyncType}
use Rattle.crate_record.specs.declared.SyncType.TheVariants.{Composite, Separate}
use Rattle.crate_record.specs.declared.DetailedTiming.{DetailedTiming}
use Rattle.crate_detailed.specs.declared.Axes.{Axes}

abbrev pub line_of : Bool → SyncLine
line_of true = RGB
line_of false = Green

-- by the kind, and digits 2 and 1
abbrev pub sync_by : ℕ → Bool → Bool → SyncType
sync_by kind two one =
    cond (ltb kind 2) (Composite two (line_of one))
    (cond (eqb kind 2) (Composite two (Digital (polarity_of one)))
    (Separate (polarity_of one) (polarity_of two)))

unfoldable pub sync_of : ℕ → SyncType
sync_of val = sync_by (digits val 3 2) (bit val 2) (bit val 1)

abbrev pub in_tenths : Size → ImageSize
in_tenths mm = record { width = tenths_of mm.width; height = tenths_of mm.height }

-- a back porch below zero, on either axis, is refused
unfoldable pub fitted : Option Across → Option Down → Steps Axes
fitted None v = refuse 6
fitted (Some h) None = refuse 6
fitted (Some h) (Some v) = done (record { across = h; down = v })

unfoldable pub axes : ℕ → Steps Axes
axes ha = do
  hb ← byte
  hh ← byte
  va ← byte
  vb ← byte
  vh ← byte
  ho ← byte
  hw ← byte
  vs ← byte
  hv ← byte
  fitted (across_of ha hb hh ho hw hv) (down_of va vb vh vs hv)

unfoldable pub timing_of : ℕ → Axes → ℕ → ℕ → ℕ → ℕ → ℕ → ℕ → DetailedTiming
timing_of clock a hs vs sh hb vb val =
    record {
      clock = clock_of clock;
      across = a.across;
      down = a.down;
      size = in_tenths (size_of hs vs sh);
      border = border_of hb vb;
      interlaced = bit val 7;
      stereo = stereo_of val;
      sync = sync_of val;
    }

-- the fifteen bytes after the clock and the active low byte ha
unfoldable pub timed : ℕ → ℕ → Steps (Option DetailedTiming)
timed clock ha = do
  a ← axes ha
  hs ← byte
  vs ← byte
  sh ← byte
  hb ← byte
  vb ← byte
  val ← byte
  done (Some (timing_of clock a hs vs sh hb vb val))

unfoldable pub detailed : Steps (Option DetailedTiming)
detailed = do
  clock ← word
  ha ← byte
  cond (eqb clock 0 || eqb ha 0) (done None) (timed clock ha)
