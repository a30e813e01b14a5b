-- Every listing is shorter than a page: the data blocks of an extension that is accepted have no more than 123 bytes, their headers among them.
use Prim.Native.Nat.{ℕ, suc, ◌+◌, ◌*◌, ◌≤◌, min}
use Rattle.std.specs.Prelude.{Bool, true, false, cond, ◌≡◌, refl, eqb, length, take, drop, Ok, Err}
use mathlib.Core.List.{List, [], ◌∷◌, ◌++◌, flat_map}
use native.Mathlib.Omega.{arith}
use Rattle.std.proofs.Math.ListN.{length-append}
use Rattle.page.specs.declared.Page.{Page}
use Rattle.page.specs.Page.{◌▷◌}
use Rattle.page.specs.Words.{space, hex_of2, field8, flat, each}
use Rattle.page.specs.Short.{field8_length, byte_length, first_length}
use Rattle.page.specs.Meaning.{whole, only}
use Rattle.fixed.specs.Fixed.{count, count_at_most, shown_whole}
use Rattle.steps.specs.declared.Span.{Span}
use Rattle.shared_lines.specs.Short.{refuse_length}
use Rattle.standard_slot_lines.specs.Short.{timing_length}
use Rattle.standard_record.specs.declared.DetailedTiming.{DetailedTiming}
use Rattle.standard_record.specs.Verdict.{Verdict}
use Rattle.cta_record.specs.Filler.{blank_block}
use Rattle.cta_record.specs.Seen.{holding}
use Rattle.cta_record.specs.declared.DataBlock.{DataBlock}
use Rattle.cta_reading.specs.Along.{Row, none, step}
use Rattle.cta_reading.specs.Cta.{tag_at, end_at, data_block, block_at, plain, cta_of}
use Rattle.cta_reading.specs.Promises.{record_is}
use Rattle.cta_reading.proofs.Promises.{blocks_row, fits}
use Rattle.cta_lines.specs.Lines.{head_line, video_line, run_field, block_line, block_lines, timing_line, timing_lines, record_lines, judged_lines, listing_of}

-- ---- data blocks

run_length : (s : List ℕ) (d : Span) → length (run_field s d) + 10 ≤ 11 * suc d.len
unfolding run_field flat
run_length s d = go (eqb d.len 0) refl
  where
    go : (t : Bool) → eqb d.len 0 ≡ t
        → length (cond t [] (space ++ (each hex_of2 (take d.len (drop d.start s)) ++ []))) + 10 ≤ 11 * suc d.len
    go true e = omega arith
    go false e =
        let all : min d.len d.len ≡ d.len = omega arith in
        let run = rw all at (first_length hex_of2 2 d.len byte_length d.len (drop d.start s)) in
        simp length-append (omega (arith, run))

block_length : (s : List ℕ) (b : DataBlock) → length (block_line s b) ≤ 11 * suc b.run.len
unfolding block_line flat
block_length s b = simp length-append (omega (arith, field8_length b.tag, run_length s b.run))

-- the bytes of the blocks, with their headers
abbrev taken : List DataBlock → ℕ
taken [] = 0
taken (b ∷ bs) = suc b.run.len + taken bs

each_block : (s : List ℕ) (bs : List DataBlock) → length (each (block_line s) bs) ≤ 11 * taken bs
unfolding each
each_block s [] = omega arith
each_block s (b ∷ bs) = omega (arith, block_length s b, each_block s bs, length-append (block_line s b) (each (block_line s) bs))

row_taken : (s : List ℕ) {more : ℕ → Bool} {p q : ℕ} {ps : List ℕ} → Row more (end_at s) p ps q → taken (flat_map (block_at s) ps) + p ≤ q
unfolding flat_map
row_taken s none = omega arith
row_taken s {p = p} {q} {ps = x ∷ ps} (step m r) = go (eqb (tag_at s p) 2) (row_taken s r)
  where
    go : (t : Bool) → taken (flat_map (block_at s) ps) + end_at s p ≤ q → taken (cond t [] (data_block s p ∷ []) ++ flat_map (block_at s) ps) + p ≤ q
    go true h = omega arith
    go false h = omega arith

-- ---- timings

timing_line_length : (d : DetailedTiming) → length (timing_line d) ≤ 106
unfolding timing_line flat
timing_line_length d = simp length-append (omega (arith, timing_length d))

-- ---- the whole

module _ (s : List ℕ) (ok : (cta_of s).end ≡ Ok tt) where
  blocks_length : length (block_lines s (holding (plain s)).blocks) ≤ 1353
  unfolding block_lines
  blocks_length =
      let bs = (plain s).blocks in
      let all : min (count 123 bs) 123 ≡ count 123 bs = omega (arith, count_at_most 123 bs, (fits s ok).blocks) in
      rw (all, shown_whole 123 blank_block bs (fits s ok).blocks)
      (omega (arith, each_block s bs, row_taken s (blocks_row s ok).1, (blocks_row s ok).2))

  record_length : length (record_lines s (holding (plain s))) ≤ 2487
  unfolding record_lines head_line video_line timing_lines flat
  record_length =
      let c = holding (plain s) in
      simp length-append
      (omega (
        arith,
        field8_length c.revision,
        field8_length c.offset,
        field8_length c.support,
        first_length field8 4 119 field8_length c.video.len c.video.items,
        blocks_length,
        first_length timing_line 106 6 timing_line_length c.timings.len c.timings.items,
      ))

pub short : (s : List ℕ) → length (listing_of s) ≤ 2494
unfolding listing_of judged_lines flat
short s = go (cta_of s).end refl
  where
    go : (v : Verdict) → (cta_of s).end ≡ v → length (judged_lines s (cta_of s).cta v) ≤ 2494
    go (Ok tt) e = rw (record_is s e) (omega (arith, record_length s e, length-append (record_lines s (holding (plain s))) []))
    go (Err f) e = omega (arith, refuse_length f)

pub printed : (s : List ℕ) (p q : Page) → length p.out.now ≡ 4096 → p.at ≡ 0 → q ≡ p ▷ listing_of s
    → (take q.at q.out.now ≡ listing_of s) × (drop q.at q.out.now ≡ drop q.at p.out.now)
printed s p q l z e = let h = short s in whole (listing_of s) p q l z (omega arith) e

-- what `cta_lines::listing` ensures leaves one count and one page
pub one_listing : (s out p q : List ℕ) (m n : ℕ) → length p ≡ 4096 → length q ≡ 4096
    → (take m p ≡ listing_of s) × (drop m p ≡ drop m out) → (take n q ≡ listing_of s) × (drop n q ≡ drop n out)
    → (m ≡ n) × (p ≡ q)
one_listing s out p q m n = let h = short s in only (listing_of s) out p q m n (omega arith)
