-- What the proofs of the two loops cite: the lists as the code holds them, and a turn of each. Assumes nothing.
use Rattle.std.specs.Prelude.{Ok, None, Some}
use Prim.Native.Nat.{ℕ, ◌+◌, ◌-◌, ◌≤◌, ◌<◌, min}
use mathlib.Core.Path.{◌≡◌, refl, sym, ap, ◌∙◌}
use mathlib.Core.Bool.{true, false}
use mathlib.Core.List.{List, [], ◌∷◌, ◌++◌, flat_map}
use native.Mathlib.Omega.{arith}
use lib.ListN.{length, take, drop, set}
use Rattle.std.proofs.Common.{length-drop, take-append-drop}
use borrow.Author.Tests.{lt-ltb, le-ltb, le-leb, lt-leb}
use Rattle.bits.specs.Bytes.{part}
use Rattle.fixed.specs.Fixed.{put_room, put_full, more_room, more_full, fixed, push, push_fixed, pushed, pushed_append, pushed_fixed}
use Rattle.fixed.specs.declared.Fixed.{Fixed}
use Rattle.standard_record.specs.Filler.{blank_timing}
use Rattle.standard_record.specs.declared.DetailedTiming.{DetailedTiming}
use Rattle.standard_timing.specs.Timing.{timing_in}
use Rattle.standard_verdict.specs.Verdict.{refused_at}
use Rattle.cta_record.specs.Filler.{blank_block}
use Rattle.cta_record.specs.Lists.{VideoDescriptors, DataBlocks, CtaTimings}
use Rattle.cta_reading.specs.Along.{first, Row, none, first_append, row_snoc, all_passed, refused_here}
use Rattle.cta_reading.specs.Cta.{offset_in, end_at, blocks_in, judge_block, video_at, block_at, is_timing, timings_in, judge_timing, judged, timing_at, before_blocks, plain}
use Rattle.cta_reading.specs.Lists.{BlocksOf}
use Rattle.cta_reading.specs.Judged.{BlocksUpTo, start, start_bounds, timing_ends, timings_from}
use Rattle.cta_reading.proofs.Judged.{head_of, below_128}
use Rattle.cta_reading.specs.Room.{Few, few, flat_snoc, spaced}

-- ---- one byte after the other, as far as there is room

module _ {A : Type 0} (n : ℕ) where
  -- a push where there is room
  pub takes : (l : Fixed A n) (v : A) → l.len < n → push n l v ≡ record { items = set l.items l.len v; len = l.len + 1 }
  unfolding push
  takes l v h = λ i. record { items = put_room n l.items l.len v h i; len = more_room n l.len h i }

  -- a full list stays as it is
  full_stays : (l : Fixed A n) (xs : List A) → n ≤ l.len → pushed (push n) l xs ≡ l
  unfolding push
  full_stays l [] h = refl
  full_stays l (x ∷ xs) h =
      let same : push n l x ≡ l = (λ i. record { items = put_full n l.items l.len x h i; len = more_full n l.len h i }) in
      ap (λ l. pushed (push n) l xs) same ∙ full_stays l xs h

  -- where the room ends, the rest is dropped
  pub rest_dropped : (l l' : Fixed A n) (k : ℕ) (xs : List A) → k ≡ min (length xs) (n - l.len) → l'.len ≡ l.len + k
      → l' ≡ pushed (push n) l (take k xs) → l' ≡ pushed (push n) l xs
  rest_dropped l l' k xs m e h =
      sym (go (drop k xs) refl) ∙ ap (λ l. pushed (push n) l (drop k xs)) h ∙ pushed_append (push n) l (take k xs) (drop k xs)
      ∙ ap (pushed (push n) l) (take-append-drop k xs)
    where
      go : (ys : List A) → drop k xs ≡ ys → pushed (push n) l' ys ≡ l'
      go [] q = refl
      go (y ∷ ys) q = full_stays l' (y ∷ ys) (omega (arith, m, e, length-drop k xs, ap length q))

-- ---- data blocks

-- the walk has come to p, and the lists are what the blocks say that it has passed
pub record Blocks (s : List ℕ) (video : VideoDescriptors) (blocks : DataBlocks) (p : ℕ) : Type 0 where
  pub ps : List ℕ
  pub row : BlocksUpTo s ps p
  pub fair : first (judge_block s) ps ≡ Ok tt
  pub bytes : video ≡ fixed 119 0 (flat_map (video_at s) ps)
  pub others : blocks ≡ fixed 123 blank_block (flat_map (block_at s) ps)

pub no_blocks : (s : List ℕ) → Blocks s (fixed 119 0 []) (fixed 123 blank_block []) 4
unfolding flat_map
no_blocks s = record { ps = []; row = none; fair = refl; bytes = refl; others = refl }

module _ {s : List ℕ} {video : VideoDescriptors} {blocks : DataBlocks} {p : ℕ} (before : before_blocks s ≡ Ok tt) (w : Blocks s video blocks p) (on : p < offset_in s) where
  so_far : Few s w.ps p
  so_far = few s w.row (omega (arith, below_128 s before))

  blocks_left : length w.ps < 123
  blocks_left = omega (arith, so_far.all, below_128 s before)

  pub block_past : offset_in s < end_at s p → first (judge_block s) (blocks_in s) ≡ refused_at 13 p
  unfolding blocks_in
  block_past h = refused_here (judge_block s) 123 w.row w.fair blocks_left (lt-ltb _ _ on) (rw (lt-leb (end_at s p) (offset_in s) h))

  module _ (inside : end_at s p ≤ offset_in s) where
    row_on : BlocksUpTo s (w.ps ++ p ∷ []) (end_at s p)
    row_on = row_snoc w.row (lt-ltb _ _ on)

    pub block_more : {video' : VideoDescriptors} {blocks' : DataBlocks} → video' ≡ pushed (push 119) video (video_at s p)
        → blocks' ≡ pushed (push 123) blocks (block_at s p) → Blocks s video' blocks' (end_at s p)
    block_more h k =
        record {
          ps = w.ps ++ p ∷ [];
          row = row_on;
          fair = first_append (judge_block s) w.ps (p ∷ []) w.fair ∙ rw (le-leb (end_at s p) (offset_in s) inside);
          bytes =
              rw flat_snoc (h ∙ ap (λ l. pushed (push 119) l (video_at s p)) w.bytes ∙ pushed_fixed 119 0 (flat_map (video_at s) w.ps) (video_at s p));
          others =
              rw flat_snoc (
              k ∙ ap (λ l. pushed (push 123) l (block_at s p)) w.others ∙ pushed_fixed 123 blank_block (flat_map (block_at s) w.ps) (block_at s p)
              );
        }

-- the walk has come to its end
pub blocks_are : {s : List ℕ} {video : VideoDescriptors} {blocks : DataBlocks} {p : ℕ} → length s ≡ 128 → before_blocks s ≡ Ok tt
    → Blocks s video blocks p → p ≤ 127 → offset_in s ≤ p → BlocksOf s video blocks
unfolding blocks_in
blocks_are {s} whole before w last off =
    let all = all_passed 123 w.row (omega (arith, (few s w.row last).all)) (le-ltb _ _ off) in
    record {
      whole = whole;
      before = before;
      fair = rw all w.fair;
      video = rw all w.bytes;
      blocks = rw all w.others;
    }

-- ---- timings

-- the walk has come to p, and the list is of the timings that it has passed
pub record Timings (s : List ℕ) (timings : CtaTimings) (p : ℕ) : Type 0 where
  pub ps : List ℕ
  pub row : Row (is_timing s) (λ p. p + 18) (start (offset_in s)) ps p
  pub fair : first (judge_timing s) ps ≡ Ok tt
  pub held : timings ≡ fixed 6 blank_timing (flat_map (timing_at s) ps)

pub no_timings : (s : List ℕ) → Timings s (fixed 6 blank_timing []) (start (offset_in s))
unfolding flat_map
no_timings s = record { ps = []; row = none; fair = refl; held = refl }

module _ {s : List ℕ} {timings : CtaTimings} {p : ℕ} (before : before_blocks s ≡ Ok tt) (w : Timings s timings p) (on : is_timing s p ≡ true) where
  timings_left : length w.ps < 6
  timings_left =
      omega (arith, spaced w.row, timing_ends s p on, start_bounds (offset_in s) (head_of s before).offset)

  pub timing_more : {t : DetailedTiming} {timings' : CtaTimings} → timing_in (part s p 18) ≡ Some t → timings' ≡ push 6 timings t
      → Timings s timings' (p + 18)
  timing_more {t} e pushes =
      record {
        ps = w.ps ++ p ∷ [];
        row = row_snoc w.row on;
        fair = first_append (judge_timing s) w.ps (p ∷ []) w.fair ∙ rw e;
        held = rw (flat_snoc, e) (pushes ∙ ap (λ l. push 6 l t) w.held ∙ push_fixed 6 blank_timing t (flat_map (timing_at s) w.ps));
      }

  pub timing_over : timing_in (part s p 18) ≡ None → first (judge_timing s) (timings_in s) ≡ refused_at 6 p
  timing_over e = rw timings_from (refused_here (judge_timing s) 6 w.row w.fair timings_left on (ap (judged p) e))

pub record TimingsOf (s : List ℕ) (timings : CtaTimings) : Type 0 where
  pub fair : first (judge_timing s) (timings_in s) ≡ Ok tt
  pub held : timings ≡ fixed 6 blank_timing (plain s).timings

-- the walk has come to its end
pub timings_are : {s : List ℕ} {timings : CtaTimings} {p : ℕ} → before_blocks s ≡ Ok tt → Timings s timings p → p ≤ 127
    → is_timing s p ≡ false → TimingsOf s timings
timings_are {s} before w last off =
    let six : length w.ps ≤ 6 = omega (arith, spaced w.row, start_bounds (offset_in s) (head_of s before).offset) in
    let all = timings_from s ∙ all_passed 6 w.row six off in
    record { fair = rw all w.fair; held = rw all w.held }
