-- The parts of a block without a mark, but for the revision's, as the crate reading reads them.
use Rattle.std.specs.Prelude.{ℕ, ◌<◌, ◌≡◌, true, false, drop}
use Rattle.std.proofs.Common.{subst, arith}
use mathlib.Core.List.{List, map}
use Rattle.steps.specs.Steps.{done, ◌>>=◌, got, run}
use Rattle.steps.specs.Leaves.{byte, word}
use Rattle.crate_record.specs.declared.StandardTiming.{StandardTiming as CratePair}
use Rattle.crate_head.specs.Head.{front}
use Rattle.crate_head.specs.declared.Front.{Front}
use Rattle.crate_timings.specs.Established.{flags_of as crate_flags_of, established}
use Rattle.crate_timings.specs.Pairs.{pairs}
use Rattle.crate_slots.specs.Slots as crate
use Rattle.crate_reading.specs.Reading.{Parts, parts}
use Rattle.standard_parts.specs.Timings.{flags_of}
use Rattle.standard_head.specs.Head.{structure_in}
use Rattle.standard_verdict.specs.Verdict.{is_header}
use Rattle.standard_slots.specs.Said.{refusal}
use Rattle.standard_reading.specs.Slots.{said_in}
use Rattle.standard_reading.specs.Block.{flags_in, eight_in}
use Rattle.marking.specs.Marks.{in_slots}
use Rattle.differences.specs.Converted.{pair_from}
use Rattle.differences.specs.Unmarked.{Block, Clear, other_fill}
use Rattle.differences.specs.Along.{Along, along_map, along_then, Came, along, spell}
use Rattle.differences.specs.Pairs.{PairsRead, pairs_along}
use Rattle.differences.specs.Heads.{front_from, FrontRead, front_along}
use Rattle.differences.specs.Slots.{ratios, LaterRead}
use Rattle.differences.proofs.Slots.{slots_along}
use Rattle.differences.specs.Parts.{PartsRead, plain_agrees}

module _ (s : List ℕ) (block : Block s) (clear : Clear s) where
  module _ (F : ℕ → Type 0) (two : is_header s ≡ false → F 2) (refused : (i : ℕ) → i < 4 → (n : ℕ) → said_in s i ≡ refusal n → F n)
      (filled : in_slots other_fill s ≡ true → F 5) where
    eight_along : Along (PairsRead (structure_in s) s 38 8 38) F (pairs 8) (drop 38 s) 38
    eight_along = pairs_along (structure_in s) s F 8 38 38 (omega (arith, block.size)) (λ e. (ratios s block clear e).0)

    -- the slots, and the extension count
    end_along : (f : Front) (a : List CratePair) → is_header s ≡ true → f ≡ front_from s → a ≡ map pair_from (eight_in s)
        → Along (PartsRead s) F (crate.slots >>= (λ xs. byte >>= (λ n. done (record { front = f; established = flags_in s; eight = a; slots = xs; extensions = n }))))
        (drop 54 s) 54
    unfolding byte
    end_along f a h e k =
        along_then _ F crate.slots _ (drop 54 s) 54
        (along_map (LaterRead s 4 0) F _ crate.slots (drop 54 s) 54
        (λ xs cs m r. rw (r.2, spell s 126 1 (omega (arith, block.size))) (h, r.0, plain_agrees s f a xs e k r.1, omega (arith, r.3)))
        (slots_along s block clear F refused filled))

    pub parts_along : Along (PartsRead s) F parts s 0
    unfolding parts established byte word flags_of crate_flags_of
    parts_along =
        along_then _ F front _ s 0
        (along_map (FrontRead s) F _ front s 0
        (λ f cs m r. rw (r.2, r.3, spell s 35 3 (omega (arith, block.size)))
        (along_then _ F (pairs 8) _ (drop 38 s) 38
        (along_map (PairsRead (structure_in s) s 38 8 38) F _ (pairs 8) (drop 38 s) 38
        (λ a ds k q. rw (q.1, q.2) (end_along f a r.0 r.1 q.0)) eight_along)))
        (front_along s block F two))

module _ (s : List ℕ) (block : Block s) (clear : Clear s) where
  pub read_parts : (p : Parts) (n : ℕ) → run parts s 0 ≡ got p n → PartsRead s p (drop n s) n
  read_parts p n e =
      subst (Came s (PartsRead s) (λ k. Unit {0})) e
      (along (PartsRead s) (λ k. Unit {0}) parts s 0 (parts_along s block clear (λ k. Unit {0}) (λ h. tt) (λ i l k h. tt) (λ h. tt)))
