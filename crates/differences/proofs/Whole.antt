-- The list of differences is whole: without a mark the two readings of a block part in nothing but what `Converted` carries over, and in the maker. Of a block that
-- has the mark of the revision alone that is so where no offsets are added to range limits, and the rest holds without a word on it.
use Rattle.std.specs.Prelude.{ℕ, ◌≡◌, refl, true, false, List, eqb, length, Ok}
use Rattle.std.proofs.Common.{sym, subst, ◌∙◌, eq-eqb}
use Rattle.std.proofs.Math.Path.{ap}
use Rattle.std.proofs.lemmas.Bool.{false≢true}
use Rattle.bits.specs.Bytes.{◌!◌}
use Rattle.steps.specs.Steps.{Outcome, got, refused}
use Rattle.crate_record.specs.Seen.{seen}
use Rattle.crate_record.specs.declared.EDID.{EDID}
use Rattle.crate_reading.specs.Reading.{parts, answer}
use Rattle.crate_reading.specs.Sizes.{parts_of}
use Rattle.standard_record.specs.Seen.{seen as standard_seen}
use Rattle.sums.specs.Sum.{byte_sum}
use Rattle.standard_verdict.specs.Laws.{has_header}
use Rattle.standard_verdict.specs.Verdict.{must, ◌then◌, before_slots}
use Rattle.standard_head.specs.Head.{product_in}
use Rattle.standard_reading.specs.Slots.{start, judge}
use Rattle.standard_reading.specs.Block.{standard_of}
use Rattle.standard_reading.specs.Judged.{end_is_verdict, accepted_before, accepted_slot}
use Rattle.marking.specs.Marks.{in_slots, marks_in}
use Rattle.demands.specs.Demands as crate_demands
use Rattle.demands.specs.Standard as standard_demands
use Rattle.differences.specs.Converted.{converted}
use Rattle.differences.specs.Unmarked.{Block, Clear, Unmarked, NoOffsets, other_fill, Agree}
use Rattle.differences.specs.Along.{Came, along}
use Rattle.differences.specs.Parts.{number, PartsRead, judged_slots, refused_parts, not_refused}
use Rattle.differences.proofs.Parts.{parts_along, read_parts}

module _ (s : List ℕ) (block : Block s) (clear : Clear s) where
  -- where both readings accept it, the two records agree, unless offsets are added to range limits
  pub offsets_apart : NoOffsets s → (e : EDID) (n : ℕ) → answer s ≡ got e n → (standard_of s).end ≡ Ok tt → Agree s (seen e) (standard_seen (standard_of s).edid)
  unfolding converted product_in
  offsets_apart still e n h a =
      let q = crate_demands.nothing_dropped s e n h in
      let whole = standard_demands.nothing_dropped s a in
      let shown = q.2 ∙ (read_parts s block clear q.0 n q.1).2 still ∙ ap (converted (number s)) (sym whole) in
      let maker = ap (λ x. x.product.maker) shown in
      record {
        maker = record { crate = maker; standard = ap (λ x. x.product.maker) whole };
        rest = shown ∙ ap (λ m. converted m (standard_seen (standard_of s).edid)) (sym maker);
      }

  -- the crate reading takes 127 bytes
  pub clear_takes_127 : (e : EDID) (n : ℕ) → answer s ≡ got e n → n ≡ 127
  clear_takes_127 e n h = let q = parts_of s e n h in (read_parts s block clear q.0 n q.1).3

  -- what the crate reading accepts, the standard reading refuses for its sum or its version alone
  pub crate_only_by_sum_or_version : (e : EDID) (n : ℕ) → answer s ≡ got e n → (standard_of s).end ≡ (must (eqb (byte_sum s) 0) 8 127 then must (eqb (s ! 18) 1) 9 18)
  unfolding before_slots
  crate_only_by_sum_or_version e n h =
      let q = parts_of s e n h in
      let r = read_parts s block clear q.0 n q.1 in
      end_is_verdict s ∙ judged_slots s r.1 ∙ rw (eq-eqb (length s) 128 block.size, r.0)

  -- what the standard reading accepts, the crate reading refuses with 5 alone, for a text that is filled up otherwise
  pub standard_only_by_a_text : (k n : ℕ) → (standard_of s).end ≡ Ok tt → answer s ≡ refused k n → (k ≡ 5) × (in_slots other_fill s ≡ true)
  standard_only_by_a_text k n a h =
      let header = has_header s (accepted_before s a) in
      let F : ℕ → Type 0 = λ j. (j ≡ 5) × (in_slots other_fill s ≡ true) in
      subst (Came s (PartsRead s) F) (refused_parts s k n h)
      (along (PartsRead s) F parts s 0 (parts_along s block clear F
      (λ no. absurd (false≢true (sym no ∙ header)))
      (λ i l j said. not_refused j (start i) (ap (λ x. judge x (start i)) (sym said) ∙ accepted_slot s a i l)) (λ e. (refl, e))))

  -- so without such a text it accepts too
  pub both_accept : (standard_of s).end ≡ Ok tt → in_slots other_fill s ≡ false → (e : EDID) × (answer s ≡ got e 127)
  both_accept a f = go (answer s) refl
    where
      go : (o : Outcome EDID) → answer s ≡ o → (e : EDID) × (answer s ≡ got e 127)
      go (got e n) h = (e, h ∙ ap (got e) (clear_takes_127 e n h))
      go (refused k n) h = absurd (false≢true (sym f ∙ (standard_only_by_a_text k n a h).1))

-- so it is of a block without a mark
pub differences_are_whole : (s : List ℕ) → Block s → Unmarked s → (e : EDID) (n : ℕ) → answer s ≡ got e n → (standard_of s).end ≡ Ok tt
    → Agree s (seen e) (standard_seen (standard_of s).edid)
unfolding marks_in
differences_are_whole s block unmarked = offsets_apart s block unmarked.clear (rw unmarked.revision)
