-- In a record that a block gives each pair has a ratio that some code means in the record's structure.
use Rattle.std.specs.Prelude.{ℕ, ◌<◌, ◌≡◌, List, [], ◌∷◌, map}
use Rattle.std.proofs.Common.{subst, append-nil}
use Rattle.bits.specs.Bytes.{part}
use Rattle.standard_record.specs.Seen.{Seen, seen}
use Rattle.standard_record.specs.Held.{held_pair}
use Rattle.standard_record.specs.declared.StandardTiming.{StandardTiming}
use Rattle.standard_record.specs.declared.StandardRecord.{StandardRecord}
use Rattle.standard_record.specs.declared.HeldPair.{HeldPair}
use Rattle.standard_parts.specs.declared.Structure.{Structure}
use Rattle.standard_slots.specs.Said.{said}
use Rattle.standard_reading.specs.Slots.{start}
use Rattle.write_leaf.specs.Bytes.{Bytes}
use Rattle.write_parts.specs.Pairs.{ratio_code_lem}
use Rattle.write_pairs.specs.Pairs.{All, ReadFrom}
use Rattle.write_pairs.specs.Laws.{all_read, all_append}
use Rattle.write_slots.specs.Words.{words, these, entries, shows}
use Rattle.write_slots.specs.Laws.{shown_pairs}
use Rattle.write_block.specs.Gives.{Gives}
use Rattle.write_block.specs.Taken.{eight, taken}
use Rattle.write_block.specs.Holds.{structure_from}
use Rattle.write_block.specs.Turns.{all_wrapped, all_turns}
use Rattle.write_block.specs.Slots.{all_turns as lists_are}
use Rattle.write_block.specs.Given.{eight_read, slot_bytes_lem, slot_holds, used_up}
use Rattle.write_block.specs.Ratios.{Coded}

module _ (b : List ℕ) (r : StandardRecord) (lent : List ℕ) (g : Gives b r lent) where
  abbrev x : Seen
  x = seen r

  abbrev σ : Structure
  σ = structure_from x

  slot_read : (i : ℕ) → i < 4 → All (ReadFrom σ) (taken x i).pairs
  slot_read i h = go (part b (start i) 18) (slot_bytes_lem b r lent g i h) (taken x i).pairs (slot_holds b r lent g i h).reads.shown
    where
      go : (t : List ℕ) → Bytes t → (ps : List StandardTiming)
          → shows t (said σ 1 t 0) ≡ these (entries (taken x i).timings ps (taken x i).points (map (words lent) (taken x i).descriptors)) → All (ReadFrom σ) ps
      go t h [] e = tt
      go t h (p ∷ ps) e = subst (All (ReadFrom σ)) (shown_pairs σ 1 t p ps _ _ _ e) (all_read σ t h 5 6)

  abbrev Own : HeldPair → Type 0
  Own h = Coded σ h.pair.ratio

  own : (n : ℕ) (p : StandardTiming) → ReadFrom σ p → Own (held_pair.wrap n p)
  own n p read = ratio_code_lem σ read.first read.second p read.read

  pub own_ratios : All (λ (h : HeldPair). Coded (structure_from (seen r)) h.pair.ratio) (seen r).standard
  own_ratios =
      rw ((lists_are x 4).pairs, (used_up b r lent g).pairs, append-nil)
      (all_append Own (map (held_pair.wrap 0) (eight x)) _ (all_wrapped held_pair (ReadFrom σ) Own own 0 (eight x) (eight_read b r lent g))
      (all_turns held_pair (ReadFrom σ) Own own (λ i. (taken x i).pairs) 4 slot_read))
