-- How much a slot lists at the most, of every answer that it may give.
use Rattle.std.specs.Prelude.{ℕ, List}
use Rattle.std.proofs.Common.{arith}
use Rattle.standard_parts.specs.declared.Structure.{Structure}
use Rattle.standard_slots.specs.Said.{point_at, said}
use Rattle.standard_slots.specs.Each.{each}
use Rattle.standard_slots.specs.Few.{Few, pairs_at_most, points_at_most}

pub few : (σ : Structure) (i : ℕ) (t : List ℕ) (at : ℕ) → Few (said σ i t at)
few σ i t at =
    each Few σ t at (record {
      refused = λ n h k. omega arith;
      none = omega arith;
      timed = λ d. omega arith;
      listed = omega (arith, pairs_at_most σ t 5 6);
      pointed = omega (arith, points_at_most (point_at t 5) (point_at t 10));
      name = omega arith;
      text = omega arith;
      serial = omega arith;
      range = omega arith;
      raw = omega arith;
    }) i
