-- A slot with a clock: the crate reading takes its 18 bytes, b0 to b17, and its timing is the standard one, converted. `rest` is what follows, `at` its place, and F is
-- to hold of a refusal's number.
use Rattle.std.specs.Prelude.{ℕ, ◌+◌, ◌*◌, ◌≡◌, false, List, [], ◌∷◌, ◌++◌, eqb, drop, None, Option, Some}
use Rattle.std.proofs.Math.Path.{refl}
use Rattle.std.proofs.Common.{arith}
use Rattle.bits.specs.Fields.{digits, bit}
use Rattle.steps.specs.Leaves.{byte, word}
use Rattle.timing.specs.Axis.{across_of, down_of}
use Rattle.timing.specs.Rest.{clock_of, size_of, border_of, stereo_of}
use Rattle.timing.specs.declared.Across.{Across}
use Rattle.timing.specs.declared.Down.{Down}
use Rattle.crate_detailed.specs.Detailed.{fitted, axes, sync_of as crate_sync_of, timing_of, timed, detailed}
use Rattle.crate_record.specs.declared.DetailedTiming.{DetailedTiming as CrateTiming}
use Rattle.standard_record.specs.declared.DetailedTiming.{DetailedTiming}
use Rattle.standard_timing.specs.Timing.{timing_in, sync_of}
use Rattle.differences.specs.Converted.{cm_from, timing_from}
use Rattle.differences.specs.Along.{Along}
use Rattle.differences.specs.Leaves.{sync_agrees}

module _ (F : ℕ → Type 0) (b0 b1 b2 b3 b4 b5 b6 b7 b8 b9 b10 b11 b12 b13 b14 b15 b16 b17 : ℕ) (rest : List ℕ) (at : ℕ) where
  abbrev slot : List ℕ
  slot = b0 ∷ b1 ∷ b2 ∷ b3 ∷ b4 ∷ b5 ∷ b6 ∷ b7 ∷ b8 ∷ b9 ∷ b10 ∷ b11 ∷ b12 ∷ b13 ∷ b14 ∷ b15 ∷ b16 ∷ b17 ∷ []

  abbrev pub TimingRead : Option CrateTiming → List ℕ → ℕ → Type 0
  TimingRead m cs n = (d : DetailedTiming) × (timing_in slot ≡ Some d) × (m ≡ Some (timing_from d)) × (cs ≡ rest) × (n ≡ at + 18)

  -- the standard timing with these axes
  abbrev fields : Across → Down → DetailedTiming
  fields h v =
      record {
        clock = clock_of (b0 + 256 * b1);
        across = h;
        down = v;
        size = size_of b12 b13 b14;
        border = border_of b15 b16;
        interlaced = bit b17 7;
        stereo = stereo_of b17;
        sync = sync_of b17;
      }

  fields_agree : (h : Across) (v : Down)
      → Some (timing_of (b0 + 256 * b1) (record { across = h; down = v }) b12 b13 b14 b15 b16 b17) ≡ Some (timing_from (fields h v))
  unfolding timing_of crate_sync_of
  fields_agree h v = λ i. Some (record {
    clock = clock_of (b0 + 256 * b1);
    across = h;
    down = v;
    size = cm_from (size_of b12 b13 b14);
    border = border_of b15 b16;
    interlaced = bit b17 7;
    stereo = stereo_of b17;
    sync = sync_agrees (digits b17 3 2) (bit b17 2) (bit b17 1) i;
  })

  -- the bytes behind the active low byte, by what the axes come to
  timed_along : (h : Option Across) (v : Option Down) → across_of b2 b3 b4 b8 b9 b11 ≡ h → down_of b5 b6 b7 b10 b11 ≡ v → (timing_in slot ≡ None → F 6)
      → Along TimingRead F (timed (b0 + 256 * b1) b2) (drop 3 slot ++ rest) (at + 1 + 1 + 1)
  unfolding timed axes fitted timing_in byte
  timed_along None v e f six = rw (e, Along) (six (rw e))
  timed_along (Some h) None e f six = rw (e, f, Along) (six (rw (e, f)))
  timed_along (Some h) (Some v) e f six = rw (e, f, Along) (fields h v, rw (e, f), fields_agree h v, refl, omega arith)

  pub timing_along : eqb (b0 + 256 * b1) 0 ≡ false → eqb b2 0 ≡ false → (timing_in slot ≡ None → F 6) → Along TimingRead F detailed (slot ++ rest) at
  unfolding detailed byte word
  timing_along clock low six =
      rw (clock, low, Along) (timed_along (across_of b2 b3 b4 b8 b9 b11) (down_of b5 b6 b7 b10 b11) refl refl six)
