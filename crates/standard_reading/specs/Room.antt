-- No list is cut: no block says more than the record's lists hold. Pairs, points and descriptors fit because the first slot lists a timing
-- or nothing.
use Rattle.std.specs.Prelude.{ℕ, ◌+◌, ◌-◌, ◌*◌, ◌≤◌, ◌≡◌, List, map, length, Ok}
use Rattle.std.proofs.Common.{sym, ap, ◌∙◌, arith, length-append}
use Rattle.std.proofs.lemmas.List.{length-map}
use Rattle.bits.specs.Fields.{bit}
use Rattle.bits.specs.Bytes.{◌!◌, part}
use Rattle.fixed.specs.Numbered.{turns, turns_at_most, turns_later}
use Rattle.shared_record.specs.Established.{flags_fit}
use Rattle.standard_record.specs.Held.{held_point, held_pair, held_timing, held}
use Rattle.standard_record.specs.Seen.{holding, Fits}
use Rattle.standard_parts.specs.Timings.{flags_of}
use Rattle.standard_head.specs.Head.{structure_in}
use Rattle.standard_slots.specs.Said.{lists}
use Rattle.standard_slots.specs.Few.{Few, NoneButTimings, first_slot, pairs_at_most}
use Rattle.standard_slots.proofs.Few.{few}
use Rattle.standard_reading.specs.Slots.{start, said_in}
use Rattle.standard_reading.specs.Block.{timings_of, eight_in, pairs_of, points_of, descriptors_of, plain, record_of, beside, standard_of}
use Rattle.standard_reading.specs.Judged.{end_is_verdict}

-- ---- after n slots

module _ (s : List ℕ) where
  few_in : (i : ℕ) → Few (said_in s i)
  few_in i = few _ i (part s (start i) 18) (start i)

  first_in : NoneButTimings (said_in s 0)
  first_in = first_slot _ (part s (start 0) 18) (start 0)

  pub timings_room : (n : ℕ) → length (timings_of s n) ≤ n
  timings_room n = omega (arith, turns_at_most held_timing (λ i. (lists (said_in s i)).timings) 1 (λ i. (few_in i).timings) n)

  pub pairs_room : (n : ℕ) → length (pairs_of s n) ≤ 8 + (n - 1) * 6
  pairs_room n =
      omega (
        arith,
        length-append (map (held_pair.wrap 0) (eight_in s)) (turns held_pair (λ i. (lists (said_in s i)).pairs) n),
        length-map (eight_in s) (held_pair.wrap 0),
        pairs_at_most (structure_in s) s 38 8,
        turns_later held_pair (λ i. (lists (said_in s i)).pairs) 6 first_in.pairs (λ i. (few_in i).pairs) n,
      )

  pub points_room : (n : ℕ) → length (points_of s n) ≤ (n - 1) * 2
  points_room n = turns_later held_point (λ i. (lists (said_in s i)).points) 2 first_in.points (λ i. (few_in i).points) n

  pub descriptors_room : (n : ℕ) → length (descriptors_of s n) ≤ n - 1
  descriptors_room n = omega (arith, turns_later held (λ i. (lists (said_in s i)).descriptors) 1 first_in.descriptors (λ i. (few_in i).descriptors) n)

-- ---- the block

pub fits : (s : List ℕ) → Fits (plain s)
unfolding flags_of
fits s =
    record {
      points = points_room s 4;
      established = flags_fit (bit (s ! 35 + 256 * (s ! 36))) (bit (s ! 37) 7);
      standard = pairs_room s 4;
      detailed = timings_room s 4;
      descriptors = descriptors_room s 4;
    }

-- the record of a block that is accepted
pub accepted : (s : List ℕ) → (standard_of s).end ≡ Ok tt → (standard_of s).edid ≡ holding (plain s)
unfolding standard_of record_of
accepted s e = ap (λ v. (beside v (record_of s)).edid) (sym (end_is_verdict s) ∙ e)
