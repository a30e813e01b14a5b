-- Where any block gives a record, its canonical block does: what is read is read again from the bytes that are made of it.
use Rattle.std.specs.Prelude.{ℕ, zero, suc, ◌+◌, ◌<◌, ◌≤◌, refl, length}
use Rattle.std.proofs.Common.{sym, ap, arith}
use Rattle.std.proofs.Math.Path.{subst}
use mathlib.Core.List.{List, [], ◌∷◌, ◌++◌}
use Rattle.bits.specs.Bytes.{part}
use Rattle.fixed.specs.Gather.{gather}
use Rattle.sums.specs.Joined.{checksum, checksum_makes_zero}
use Rattle.standard_record.specs.Seen.{Seen, seen}
use Rattle.standard_record.specs.Held.{held_point, held_pair, held_timing, held}
use Rattle.standard_record.specs.declared.StandardRecord.{StandardRecord}
use Rattle.standard_record.specs.declared.DetailedTiming.{DetailedTiming}
use Rattle.standard_record.specs.declared.StandardTiming.{StandardTiming}
use Rattle.standard_record.specs.declared.WhitePoint.{WhitePoint}
use Rattle.standard_record.specs.declared.Descriptor.{Descriptor}
use Rattle.standard_parts.specs.declared.Structure.{Structure}
use Rattle.standard_slots.specs.declared.Points.{Points}
use Rattle.standard_reading.specs.Slots.{start}
use Rattle.write_leaf.specs.Bytes.{Bytes}
use Rattle.write_leaf.specs.Leaf.{Again}
use Rattle.write_leaf.specs.Again.{each_byte, each_before, append_bytes}
use Rattle.write_timing.specs.Timing.{timing_bytes}
use Rattle.write_timing.proofs.Again.{timing_again}
use Rattle.write_pairs.specs.Run.{run, run_at_most}
use Rattle.write_pairs.specs.Pairs.{pairs_bytes, All, ReadFrom}
use Rattle.write_pairs.specs.Laws.{all_read}
use Rattle.write_pairs.specs.Again.{pairs_again, pairs_are_bytes}
use Rattle.write_slots.specs.Slot.{slot_bytes}
use Rattle.write_slots.specs.Laws.{timing_shown, shown_timing, shown_pairs}
use Rattle.write_slots.specs.Again.{points_again, descriptor_again}
use Rattle.write_head.specs.Front.{front_bytes}
use Rattle.write_head.specs.Again.{front_again}
use Rattle.write_block.specs.Shown.{Shown, shown, front_of}
use Rattle.write_block.specs.Canonical.{body, block_of}
use Rattle.write_block.specs.Gives.{Gives}
use Rattle.write_block.specs.Taken.{first, next, eight, rest, taken}
use Rattle.write_block.specs.Holds.{structure_from, Holds, slot_from}
use Rattle.write_block.specs.Leaves.{slot_size, slot_shows}
use Rattle.write_block.specs.Given.{same, eight_read, used_up, slot_bytes_lem, slot_holds, first_timing, front_reads}
use Rattle.write_block.specs.Built.{Fit, body_is, gives}

-- ---- a slot

module _ (σ : Structure) (lent t : List ℕ) (b : Bytes t) where
  slot_again : (ts : List DetailedTiming) (ps : List StandardTiming) (ws : List WhitePoint) (ds : List Descriptor)
      → length ts ≤ 1 → length ps ≤ 6 → length ws ≤ 2 → length ds ≤ 1
      → Holds σ lent t (first ts ps ws ds) → Again Bytes (Holds σ lent) (slot_from lent) (first ts ps ws ds)
  unfolding slot_bytes timing_bytes
  slot_again (d ∷ []) ps ws ds nt np nw nd h =
      let r = shown_timing σ 1 t d [] [] [] [] h.reads.shown in
      let a = timing_again d t b (record { clock = r.0; is = r.1 }) in
      record { bytes = a.bytes; reads = record { inside = tt; reads = record { size = refl; shown = timing_shown σ 1 (timing_bytes d) d a.reads.clock a.reads.is } } }
  slot_again (d ∷ e ∷ ts) ps ws ds nt np nw nd h = absurd (omega arith)
  slot_again [] (p ∷ ps) ws ds nt np nw nd h =
      let read : All (ReadFrom σ) (p ∷ ps) = subst (All (ReadFrom σ)) (shown_pairs σ 1 t p ps [] [] [] h.reads.shown) (all_read σ t b 5 6) in
      record {
        bytes = each_before (0 ∷ 0 ∷ 0 ∷ 0xfa ∷ 0 ∷ []) (pairs_bytes 6 (p ∷ ps) ++ 0x0a ∷ []) (omega arith)
            (append_bytes (pairs_bytes 6 (p ∷ ps)) (0x0a ∷ []) (pairs_are_bytes 6 (p ∷ ps)) (each_byte (0x0a ∷ []) (omega arith)));
        reads = record { inside = tt; reads = record { size = slot_size p ps np; shown = slot_shows p ps np σ (pairs_again σ (p ∷ ps) read) } };
      }
  slot_again [] [] (w ∷ []) ds nt np nw nd h = let a = points_again σ (Points.One w) t b h.reads in record { bytes = a.bytes; reads = record { inside = tt; reads = a.reads } }
  slot_again [] [] (w ∷ v ∷ []) ds nt np nw nd h = let a = points_again σ (Points.Two w v) t b h.reads in record { bytes = a.bytes; reads = record { inside = tt; reads = a.reads } }
  slot_again [] [] (w ∷ v ∷ u ∷ ws) ds nt np nw nd h = absurd (omega arith)
  slot_again [] [] [] (d ∷ []) nt np nw nd h =
      let a = descriptor_again σ lent d t b (h.inside.0, h.reads) in
      record { bytes = a.bytes; reads = record { inside = (a.reads.0, tt); reads = a.reads.1 } }
  slot_again [] [] [] (d ∷ e ∷ ds) nt np nw nd h = absurd (omega arith)
  slot_again [] [] [] [] nt np nw nd h = let a = points_again σ Points.None t b h.reads in record { bytes = a.bytes; reads = record { inside = tt; reads = a.reads } }

-- ---- the block

gather_bytes : (f : ℕ → List ℕ) (n : ℕ) → ((i : ℕ) → i < n → Bytes (f i)) → Bytes (gather f n)
gather_bytes f zero h = each_byte [] tt
gather_bytes f (suc n) h = append_bytes (gather f n) (f n) (gather_bytes f n (λ i l. h i (omega arith))) (h n (omega arith))

module _ (b : List ℕ) (r : StandardRecord) (lent : List ℕ) (g : Gives b r lent) where
  abbrev x : Seen
  x = seen r

  each_slot : (i : ℕ) → i < 4 → Again Bytes (Holds (structure_from x) lent) (slot_from lent) (taken x i)
  unfolding next
  each_slot i h =
      let a = rest x i in
      slot_again (structure_from x) lent (part b (start i) 18) (slot_bytes_lem b r lent g i h)
      (run held_timing (i + 1) 1 a.timings) (run held_pair (i + 1) 6 a.pairs) (run held_point (i + 1) 2 a.points) (run held (i + 1) 1 a.descriptors)
      (run_at_most held_timing (i + 1) 1 a.timings) (run_at_most held_pair (i + 1) 6 a.pairs) (run_at_most held_point (i + 1) 2 a.points) (run_at_most held (i + 1) 1 a.descriptors)
      (slot_holds b r lent g i h)

  pub fit : Fit r lent
  fit = record {
    front = (front_again (front_of x) b g.bytes (front_reads b r lent g)).reads;
    pairs = pairs_again (structure_from x) (eight x) (eight_read b r lent g);
    slots = λ i h. (each_slot i h).reads;
    first = omega (arith, ap length (first_timing b r lent g).1);
    used = used_up b r lent g;
  }

  abbrev parts : ℕ → List ℕ
  parts i = slot_from lent (taken x i)

  body_bytes : Bytes (body (shown lent x))
  body_bytes =
      let e : x.extensions < 256 = rw (← ap (λ (s : Shown). s.extensions) (same b r lent g)) (g.bytes 126) in
      subst Bytes (sym (body_is r lent fit))
      (append_bytes (front_bytes (front_of x)) (pairs_bytes 8 (eight x) ++ (gather parts 4 ++ x.extensions ∷ []))
      (front_again (front_of x) b g.bytes (front_reads b r lent g)).bytes
      (append_bytes (pairs_bytes 8 (eight x)) (gather parts 4 ++ x.extensions ∷ []) (pairs_are_bytes 8 (eight x))
      (append_bytes (gather parts 4) (x.extensions ∷ []) (gather_bytes parts 4 (λ i h. (each_slot i h).bytes)) (each_byte (x.extensions ∷ []) (e, tt)))))

  -- of all blocks that give the record the canonical one is one
  pub canonical_gives : Gives (block_of (shown lent x)) r lent
  canonical_gives =
      gives r lent fit
      (append_bytes (body (shown lent x)) (checksum (body (shown lent x)) ∷ []) body_bytes
      (each_byte (checksum (body (shown lent x)) ∷ []) ((checksum_makes_zero (body (shown lent x))).0, tt)))
