-- The four slots of a block without a mark, but for the revision's, one after the other: each begins where the standard reading has it.
use Prim.Native.Nat.{ℕ, zero, suc, ◌+◌, ◌<◌}
use Rattle.std.specs.Prelude.{◌≡◌, Bool, true, false, List, [], ◌∷◌, leb, take}
use Rattle.std.proofs.Math.Path.{refl, ap}
use Rattle.std.proofs.Common.{sym, subst}
use native.Mathlib.Omega.{arith}
use Rattle.std.proofs.Math.ListN.{drop}
use Rattle.bits.specs.Bytes.{◌!◌}
use Rattle.steps.specs.Steps.{Steps, done, ◌>>=◌}
use Rattle.steps.specs.Laws.{then_then}
use Rattle.crate_detailed.specs.Detailed.{detailed}
use Rattle.crate_slots.specs.Slots as crate
use Rattle.crate_end.specs.Ends.{said_at}
use Rattle.standard_head.specs.Head.{structure_in}
use Rattle.standard_slots.specs.Said.{refusal}
use Rattle.standard_reading.specs.Slots.{start, said_in}
use Rattle.write_leaf.specs.Again.{part_bytes}
use Rattle.marking.specs.Marks.{slot_in, in_slots, active_low_zero, tag10, index_zero, gamma_ff, pairs_zero, marks_in}
use Rattle.differences.specs.Unmarked.{Block, Clear, offsets_add, NoOffsets, other_fill}
use Rattle.differences.specs.Along.{Along, along_map, along_then, spelled, spell}
use Rattle.differences.specs.Kinds.{Clean, slot_along}
use Rattle.differences.specs.Slots.{none_of, one_of, second_not, from_four, Tells, LaterRead, ratios}

module _ (s : List ℕ) (block : Block s) (clear : Clear s) where
  not_in : (f : List ℕ → Bool) → in_slots f s ≡ false → (i : ℕ) → i < 4 → f (slot_in s i) ≡ false
  not_in f = none_of 4 (λ i. f (slot_in s i))

  clean : (i : ℕ) → i < 4 → Clean (NoOffsets s) (structure_in s) (slot_in s i)
  unfolding marks_in
  clean i l =
      record {
        bytes = part_bytes s (start i) 18 block.bytes;
        active = not_in active_low_zero clear.active i l;
        dummy = not_in tag10 clear.dummy i l;
        index = not_in index_zero clear.index i l;
        gamma = not_in gamma_ff clear.gamma i l;
        ratio = λ e. not_in pairs_zero (ratios s block clear e).1 i l;
        still = λ q new. not_in offsets_add (second_not (leb 4 (s ! 19)) (in_slots offsets_add s) (from_four (s ! 19) new) q) i l;
      }

  module _ (F : ℕ → Type 0) (refused : (i : ℕ) → i < 4 → (n : ℕ) → said_in s i ≡ refusal n → F n) (filled : in_slots other_fill s ≡ true → F 5) where
    one_along : (i : ℕ) → i < 4 → Along (Tells s i (slot_in s i)) F (detailed >>= said_at i) (drop (start i) s) (start i)
    one_along i l =
        let e = spell s (start i) 18 (omega (arith, block.size)) in
        let f : slot_in s i ≡ spelled s (start i) 18 [] = ap (take 18) e in
        subst (λ (bs : List ℕ). Along (Tells s i (slot_in s i)) F (detailed >>= said_at i) bs (start i)) (sym e)
        (subst (λ (t : List ℕ). Along (Tells s i t) F (detailed >>= said_at i) (spelled s (start i) 18 (drop (start i + 18) s)) (start i)) (sym f)
        (slot_along (NoOffsets s) (structure_in s) F _ _ _ _ _ _ _ _ _ _ _ _ _ _ _ _ _ _ (drop (start i + 18) s) (start i) i
        (subst (Clean (NoOffsets s) (structure_in s)) f (clean i l)) (λ n h. refused i l n (rw f h)) (λ h. filled (one_of 4 (λ j. other_fill (slot_in s j)) i l (rw f h)))))

    -- ---- one after the other

    -- a slot, and the others
    more_along : (n i : ℕ) → i < 4 → (g : Steps (List crate.Said))
        → Along (LaterRead s n (suc i)) F g (drop (start i + 18) s) (start i + 18)
        → Along (LaterRead s (suc n) i) F (detailed >>= (λ t. said_at i t >>= (λ x. g >>= (λ xs. done (x ∷ xs))))) (drop (start i) s) (start i)
    more_along n i l g rest =
        subst (λ p. Along (LaterRead s (suc n) i) F p (drop (start i) s) (start i)) (then_then detailed (said_at i) (λ x. g >>= (λ xs. done (x ∷ xs))))
        (along_then _ F (detailed >>= said_at i) (λ x. g >>= (λ xs. done (x ∷ xs))) (drop (start i) s) (start i)
        (along_map (Tells s i (slot_in s i)) F _ (detailed >>= said_at i) (drop (start i) s) (start i)
        (λ x cs m r. rw (r.2, r.3)
        (along_then _ F g (λ xs. done (x ∷ xs)) (drop (start i + 18) s) (start i + 18)
        (along_map (LaterRead s n (suc i)) F _ g (drop (start i + 18) s) (start i + 18) (λ xs ds k q. ((r.0, q.0), (r.1, q.1), q.2, q.3)) rest)))
        (one_along i l)))

    later_along : (n i : ℕ) → suc i + n ≡ 4 → Along (LaterRead s n (suc i)) F (crate.later n) (drop (start (suc i)) s) (start (suc i))
    unfolding crate.later
    later_along zero i e = let end : start (suc i) ≡ 126 = omega arith in (tt, refl, ap (λ (k : ℕ). drop k s) end, end)
    later_along (suc n) i e =
        let next : start (suc i) + 18 ≡ start (suc (suc i)) = omega arith in
        more_along n (suc i) (omega arith) (crate.later n) (rw next (later_along n (suc i) (omega arith)))

    pub slots_along : Along (LaterRead s 4 0) F crate.slots (drop 54 s) 54
    unfolding crate.slots
    slots_along = more_along 3 0 (omega arith) (crate.later 3) (later_along 3 0 refl)
