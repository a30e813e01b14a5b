-- The fixed list of established timings.
use Rattle.std.specs.Prelude.{ℕ, ◌≤◌, Bool, List, ◌++◌, length}
use Rattle.std.proofs.Common.{arith, length-append}
use Rattle.bits.specs.Fields.{bit}
use Rattle.fixed.specs.Fixed.{fixed}
use Rattle.fixed.specs.Gather.{gather, when, when_at_most, gather_at_most}
use Rattle.fixed.specs.declared.Fixed.{Fixed}

abbrev pub EstablishedTimings : Type 0
EstablishedTimings = Fixed ℕ 17

abbrev pub established_timings : List ℕ → EstablishedTimings
established_timings xs = fixed 17 0 xs

-- the numbers of the flags that are set: the digits of `low` from 0 on, then digit 7 of `last`
abbrev pub flags_on : ℕ → ℕ → List ℕ
flags_on low last = gather (λ k. when (bit low k) k) 16 ++ when (bit last 7) 16

-- sixteen flags and one more fit, whatever says which of them are on
pub flags_fit : (on : ℕ → Bool) (last : Bool) → length (gather (λ k. when (on k) k) 16 ++ when last 16) ≤ 17
flags_fit on last =
    omega (
      arith,
      length-append (gather (λ k. when (on k) k) 16) (when last 16),
      gather_at_most (λ k. when (on k) k) 1 (λ k. when_at_most (on k) k) 16,
      when_at_most {A = ℕ} last 16,
    )
