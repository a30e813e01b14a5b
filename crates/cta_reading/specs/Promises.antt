-- What the reading promises of every extension s: how it can end, and what holds of one that is accepted. The laws that rest on its walks and on its
-- first tests are in proofs/Promises.
use Rattle.std.specs.Prelude.{ℕ, ◌+◌, ◌≤◌, ◌<◌, ◌≡◌, length, Ok, Err, None, Option, Some}
use Rattle.std.proofs.Math.Path.{refl, ap}
use Rattle.std.proofs.Common.{sym, ◌∙◌}
use Rattle.std.proofs.Math.Bool.{true, false}
use mathlib.Core.List.{List, [], ◌∷◌, ◌++◌, map, flat_map}
use borrow.Author.Tests.{eq-eqb}
use Rattle.bits.specs.Bytes.{◌!◌, part}
use Rattle.sums.specs.Sum.{byte_sum}
use Rattle.steps.specs.declared.Refusal.{Refusal}
use Rattle.standard_record.specs.declared.DetailedTiming.{DetailedTiming}
use Rattle.standard_record.specs.Verdict.{Verdict}
use Rattle.standard_timing.specs.Timing.{timing_in}
use Rattle.standard_verdict.specs.Verdict.{refused_at, ◌then◌}
use Rattle.standard_verdict.specs.Laws.{then_second}
use Rattle.cta_record.specs.Filler.{blank}
use Rattle.cta_record.specs.Seen.{holding}
use Rattle.cta_record.specs.declared.DataBlock.{DataBlock}
use Rattle.cta_reading.specs.Along.{first, clash}
use Rattle.cta_reading.specs.Cta.{offset_in, end_at, blocks_in, judge_block, is_timing, timings_in, judged, judge_timing, listed, timing_at, is_offset, before_blocks, verdict_of, plain, beside, cta_of}
use Rattle.cta_reading.specs.Judged.{BlocksUpTo, TimingsUpTo, Head}

-- ---- how a reading can end

-- each end with its reason
pub data Ends (s : List ℕ) : Verdict → Type 0 where
  wrong_length : (length s ≡ 128 → ⊥) → Ends s (refused_at 7 0)
  wrong_sum : length s ≡ 128 → (byte_sum s ≡ 0 → ⊥) → Ends s (refused_at 8 127)
  wrong_tag : length s ≡ 128 → byte_sum s ≡ 0 → (s ! 0 ≡ 0x02 → ⊥) → Ends s (refused_at 12 0)
  wrong_offset : length s ≡ 128 → byte_sum s ≡ 0 → s ! 0 ≡ 0x02 → is_offset (offset_in s) ≡ false → Ends s (refused_at 13 2)
  block_past : (ps : List ℕ) (p : ℕ) → Head s → BlocksUpTo s ps p → p < offset_in s → offset_in s < end_at s p → Ends s (refused_at 13 p)
  porch_too_long : (ps : List ℕ) (p : ℕ) → Head s → BlocksUpTo s (blocks_in s) (offset_in s)
      → TimingsUpTo s ps p → first (judge_timing s) ps ≡ Ok tt → is_timing s p ≡ true → timing_in (part s p 18) ≡ None → Ends s (refused_at 6 p)
  accepted : Head s → (0 < offset_in s → BlocksUpTo s (blocks_in s) (offset_in s)) → first (judge_timing s) (timings_in s) ≡ Ok tt → Ends s (Ok tt)

-- the end is the verdict
pub end_is_verdict : (s : List ℕ) → (cta_of s).end ≡ verdict_of s
unfolding cta_of
end_is_verdict s = go (verdict_of s)
  where
    go : (v : Verdict) → (beside v (holding (plain s))).end ≡ v
    go (Ok tt) = refl
    go (Err f) = refl

-- a refusal's number and place
abbrev pub Bounded : Verdict → Type 0
Bounded (Ok tt) = Unit
Bounded (Err f) = (6 ≤ f.number) × (f.number ≤ 13) × (f.at ≤ 127)

-- beside a refusal stands the filler
pub filler_beside_a_refusal : (s : List ℕ) (f : Refusal) → (cta_of s).end ≡ Err f → (cta_of s).cta ≡ blank
unfolding cta_of
filler_beside_a_refusal s f e = ap (λ v. (beside v (holding (plain s))).cta) (sym (end_is_verdict s) ∙ e)

-- ---- of an extension with the offset 0

-- there are no data blocks and no timings
pub nothing_at_0 : (s : List ℕ) → offset_in s ≡ 0 → (blocks_in s ≡ []) × (timings_in s ≡ [])
unfolding blocks_in timings_in
nothing_at_0 s z = (rw z, rw z)

-- and nothing else to refuse
pub accepted_at_0 : (s : List ℕ) → Head s → offset_in s ≡ 0 → (cta_of s).end ≡ Ok tt
unfolding before_blocks
accepted_at_0 s h z =
    end_is_verdict s
    ∙ rw ((nothing_at_0 s z).0, (nothing_at_0 s z).1, eq-eqb _ _ h.size, eq-eqb _ _ h.sum, eq-eqb _ _ h.tag, h.offset)

-- ---- of an extension that is accepted

-- each span begins behind a header, and ends at d or before
abbrev pub Inside : ℕ → List DataBlock → Type 0
Inside d [] = Unit
Inside d (b ∷ bs) = (5 ≤ b.run.start) × (b.run.start + b.run.len ≤ d) × Inside d bs

-- the timings end before byte 127, and where they end stands no other
pub record AllTimings (s ps : List ℕ) : Type 0 where
  pub end : ℕ
  pub row : TimingsUpTo s ps end
  pub before_127 : end ≤ 127
  pub no_more : is_timing s end ≡ false

module _ (s : List ℕ) where
  each_listed : (ps : List ℕ) → first (judge_timing s) ps ≡ Ok tt → map Some (flat_map (timing_at s) ps) ≡ map (λ p. timing_in (part s p 18)) ps
  unfolding flat_map
  each_listed [] e = refl
  each_listed (p ∷ ps) e = go (timing_in (part s p 18)) (each_listed ps) e
    where
      go : (t : Option DetailedTiming) → (first (judge_timing s) ps ≡ Ok tt → map Some (flat_map (timing_at s) ps) ≡ map (λ p. timing_in (part s p 18)) ps)
          → (judged p t then first (judge_timing s) ps) ≡ Ok tt
          → map Some (listed t ++ flat_map (timing_at s) ps) ≡ t ∷ map (λ p. timing_in (part s p 18)) ps
      go (Some t) rest e = ap (λ l. Some t ∷ l) (rest e)
      go None rest e = clash (sym e)

module _ (s : List ℕ) (ok : (cta_of s).end ≡ Ok tt) where
  pub passed : verdict_of s ≡ Ok tt
  passed = sym (end_is_verdict s) ∙ ok

  pub timings_fair : first (judge_timing s) (timings_in s) ≡ Ok tt
  timings_fair = then_second (before_blocks s then first (judge_block s) (blocks_in s)) _ passed

  -- each of them is listed
  pub timings_listed : map Some (plain s).timings ≡ map (λ p. timing_in (part s p 18)) (timings_in s)
  timings_listed = each_listed s (timings_in s) timings_fair

  pub record_is : (cta_of s).cta ≡ holding (plain s)
  unfolding cta_of
  record_is = ap (λ v. (beside v (holding (plain s))).cta) passed
