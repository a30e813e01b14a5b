-- What holds of every extension's reading: it ends as told, refusals are bounded, and one that is accepted is tiled by its blocks and shows all that it says.
use Rattle.std.specs.Prelude.{ℕ, ◌+◌, ◌≤◌, ◌<◌, ◌≡◌, Bool, cond, ◌⊎◌, eqb, leb, length, Ok, Err, None, Option, Some}
use Rattle.std.proofs.Math.Path.{refl, ap, subst}
use Rattle.std.proofs.Common.{◌∙◌}
use Rattle.std.proofs.Math.Bool.{true, false}
use mathlib.Core.List.{List, [], ◌∷◌, ◌++◌, flat_map}
use Rattle.std.proofs.Math.Logic.{⊎_elim}
use native.Mathlib.Omega.{arith}
use Rattle.std.proofs.Math.Dec.{ltb}
use borrow.Author.Tests.{eqb-false, ltb-true, ltb-false, leb-true, leb-false, lt-leb, ne_eqb}
use Rattle.bits.specs.Bytes.{part}
use Rattle.steps.specs.declared.Refusal.{Refusal}
use Rattle.standard_record.specs.declared.DetailedTiming.{DetailedTiming}
use Rattle.standard_record.specs.Verdict.{Verdict}
use Rattle.standard_timing.specs.Timing.{timing_in}
use Rattle.standard_verdict.specs.Verdict.{must, ◌then◌}
use Rattle.standard_verdict.specs.Laws.{then_first, then_second, must_hold}
use Rattle.cta_record.specs.Seen.{seen, Fits, shows}
use Rattle.cta_reading.specs.Along.{along, first, Row, none, step, clash, row_below, Stop, stop, walked}
use Rattle.cta_reading.specs.Cta.{offset_in, tag_at, end_at, blocks_in, judge_block, data_block, block_at, is_timing, timings_in, judged, judge_timing, timing_at, is_offset, before_blocks, plain, cta_of}
use Rattle.cta_reading.specs.Judged.{BlocksUpTo, Head, before_by, offset_is, offset_below, timing_ends}
use Rattle.cta_reading.proofs.Judged.{head_of}
use Rattle.cta_reading.specs.Room.{few, flat_at_most, timing_1, spaced, row_up}
use Rattle.cta_reading.specs.Promises.{Ends, wrong_length, wrong_sum, wrong_tag, wrong_offset, block_past, porch_too_long, accepted, end_is_verdict, Bounded, nothing_at_0, Inside, AllTimings, passed, timings_fair, record_is}

module _ (s : List ℕ) where
  offset_from_4 : is_offset (offset_in s) ≡ true → 0 < offset_in s → (4 ≤ offset_in s) × (offset_in s ≤ 127)
  offset_from_4 o h = ⊎_elim (λ z. absurd (omega arith)) (λ b. b) (offset_is (offset_in s) o)

  -- data blocks of which none is refused go on up to the offset
  filled : is_offset (offset_in s) ≡ true → 0 < offset_in s → first (judge_block s) (blocks_in s) ≡ Ok tt → BlocksUpTo s (blocks_in s) (offset_in s)
  unfolding blocks_in
  filled o h e =
      let d = offset_from_4 o h in
      let w = walked (λ p. ltb p (offset_in s)) (end_at s) 123 4 in
      let most = row_below (judge_block s) (offset_in s) (λ p m j. leb-true (end_at s p) (offset_in s) (must_hold _ 13 p j)) d.0 w.1 e in
      let least : offset_in s ≤ w.0 = ⊎_elim (ltb-false w.0 (offset_in s)) (λ l. omega (arith, (few s w.1 (omega arith)).all)) w.2 in
      let here : w.0 ≡ offset_in s = omega arith in
      subst (Row (λ p. ltb p (offset_in s)) (end_at s) 4 _) here w.1

  block_ends : Head s → (f : Refusal) → first (judge_block s) (blocks_in s) ≡ Err f → Ends s (Err f)
  unfolding blocks_in
  block_ends h f e = go (leb (end_at s x.at) (offset_in s)) refl x.refused
    where
      x : Stop (λ p. ltb p (offset_in s)) (end_at s) (judge_block s) f 4
      x = stop (judge_block s) (walked (λ p. ltb p (offset_in s)) (end_at s) 123 4).1 e

      go : (t : Bool) → leb (end_at s x.at) (offset_in s) ≡ t → must t 13 x.at ≡ Err f → Ends s (Err f)
      go true l e = clash e
      go false l e = subst (Ends s) e (block_past x.before x.at h x.row (ltb-true _ _ x.more_at) (leb-false _ _ l))

  timing_ends_it : Head s → (0 < offset_in s → BlocksUpTo s (blocks_in s) (offset_in s)) → (f : Refusal)
      → first (judge_timing s) (timings_in s) ≡ Err f → Ends s (Err f)
  unfolding timings_in
  timing_ends_it h tiles f = go (eqb (offset_in s) 0) refl
    where
      here : 0 < offset_in s → (x : Stop (is_timing s) (λ p. p + 18) (judge_timing s) f (offset_in s))
          → (t : Option DetailedTiming) → timing_in (part s x.at 18) ≡ t → judged x.at t ≡ Err f → Ends s (Err f)
      here d x (Some t) i e = clash e
      here d x None i e = subst (Ends s) e (porch_too_long x.before x.at h (tiles d) x.row x.fair x.more_at i)

      go : (t : Bool) → eqb (offset_in s) 0 ≡ t → first (judge_timing s) (cond t [] (along (is_timing s) (λ p. p + 18) 6 (offset_in s))) ≡ Err f → Ends s (Err f)
      go true z e = clash e
      go false z e =
          let x = stop (judge_timing s) (walked (is_timing s) (λ p. p + 18) 6 (offset_in s)).1 e in
          here (let z = eqb-false (offset_in s) 0 z in omega arith) x (timing_in (part s x.at 18)) refl x.refused

  pub ends : Ends s (cta_of s).end
  ends =
      rw end_is_verdict
      (before_by s (λ v. Ends s (v then first (judge_block s) (blocks_in s) then first (judge_timing s) (timings_in s)))
      wrong_length wrong_sum wrong_tag wrong_offset
      (λ h. blocks h (first (judge_block s) (blocks_in s)) refl))
    where
      timings : Head s → first (judge_block s) (blocks_in s) ≡ Ok tt → (v : Verdict) → first (judge_timing s) (timings_in s) ≡ v → Ends s v
      timings h e (Ok tt) i = accepted h (λ d. filled h.offset d e) i
      timings h e (Err f) i = timing_ends_it h (λ d. filled h.offset d e) f i

      blocks : Head s → (v : Verdict) → first (judge_block s) (blocks_in s) ≡ v → Ends s (v then first (judge_timing s) (timings_in s))
      blocks h (Ok tt) e = timings h e (first (judge_timing s) (timings_in s)) refl
      blocks h (Err f) e = block_ends h f e

bounded_end : {s : List ℕ} {v : Verdict} → Ends s v → Bounded v
bounded_end (wrong_length a) = (omega arith, omega arith, omega arith)
bounded_end (wrong_sum a b) = (omega arith, omega arith, omega arith)
bounded_end (wrong_tag a b c) = (omega arith, omega arith, omega arith)
bounded_end (wrong_offset a b c d) = (omega arith, omega arith, omega arith)
bounded_end {s} (block_past ps p h row m l) = (omega arith, omega arith, omega (arith, offset_below (offset_in s) h.offset))
bounded_end {s} (porch_too_long ps p h b row fair m o) = (omega arith, omega arith, omega (arith, timing_ends s p m))
bounded_end (accepted h b t) = tt

pub bounded : (s : List ℕ) → Bounded (cta_of s).end
bounded s = bounded_end (ends s)

module _ (s : List ℕ) where
  inside : {more : ℕ → Bool} {p q : ℕ} {ps : List ℕ} → 4 ≤ p → Row more (end_at s) p ps q → Inside q (flat_map (block_at s) ps)
  unfolding flat_map
  inside h none = tt
  inside {p = p} {q} {ps = x ∷ ps} h (step m r) = go (eqb (tag_at s p) 2) (inside (omega arith) r) (row_up (λ p. omega arith) r)
    where
      go : (t : Bool) → Inside q (flat_map (block_at s) ps) → end_at s p ≤ q → Inside q (cond t [] (data_block s p ∷ []) ++ flat_map (block_at s) ps)
      go true i e = i
      go false i e = (omega arith, omega arith, i)

module _ (s : List ℕ) (ok : (cta_of s).end ≡ Ok tt) where
  pub head : Head s
  head = head_of s (then_first _ _ (then_first _ _ (passed s ok)))

  offset : (offset_in s ≡ 0) ⊎ ((4 ≤ offset_in s) × (offset_in s ≤ 127))
  offset = offset_is (offset_in s) head.offset

  -- with an offset, the data blocks fill the bytes from 4 up to it
  pub tiles : 0 < offset_in s → BlocksUpTo s (blocks_in s) (offset_in s)
  tiles d = filled s head.offset d (then_second (before_blocks s) _ (then_first _ _ (passed s ok)))

  -- without one there are none; so they lie before byte 127
  pub blocks_row : (q : ℕ) × BlocksUpTo s (blocks_in s) q × (q ≤ 127)
  blocks_row =
      ⊎_elim (λ z. rw (nothing_at_0 s z).0 (4, none, omega arith)) (λ b. (offset_in s, tiles (omega (arith, b.0)), b.1)) offset

  pub timings_lie : 0 < offset_in s → AllTimings s (timings_in s)
  unfolding timings_in
  timings_lie h =
      let d = offset_from_4 s head.offset h in
      let w = walked (is_timing s) (λ p. p + 18) 6 (offset_in s) in
      rw (ne_eqb (offset_in s) 0 (λ z. omega arith))
      (record {
        end = w.0;
        row = w.1;
        before_127 = row_below (judge_timing s) 127 (λ p m j. timing_ends s p m) d.1 w.1 (rw (ne_eqb (offset_in s) 0 (λ z. omega arith)) at (timings_fair s ok));
        no_more = ⊎_elim (λ m. m) (λ l. rw (lt-leb (w.0 + 18) 127 (omega (arith, d.0, spaced w.1)))) w.2;
      })

  -- each list has room in its array
  pub fits : Fits (plain s)
  fits =
      let n = few s blocks_row.1 blocks_row.2 in
      record {
        video = n.video;
        blocks = omega (arith, n.blocks, n.all, blocks_row.2);
        timings = omega (arith, flat_at_most (timing_at s) 1 (timing_1 s) (timings_in s), at_most_6);
      }
    where
      at_most_6 : length (timings_in s) ≤ 6
      at_most_6 =
          ⊎_elim (λ z. rw (nothing_at_0 s z).1 (omega arith))
          (λ b. let r = timings_lie (omega (arith, b.0)) in omega (arith, b.0, spaced r.row, r.before_127)) offset

  -- so the record shows all that the extension says
  pub shows_all : seen (cta_of s).cta ≡ plain s
  shows_all = ap seen (record_is s ok) ∙ shows (plain s) fits

  pub spans_inside : Inside (offset_in s) (seen (cta_of s).cta).blocks
  unfolding flat_map
  spans_inside =
      rw shows_all (⊎_elim (λ z. rw (nothing_at_0 s z).0 tt) (λ b. inside s (omega arith) (tiles (omega (arith, b.0)))) offset)
