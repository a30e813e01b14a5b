-- How much data blocks and timings that lie one behind the other can say.
use Rattle.std.specs.Prelude.{ℕ, ◌+◌, ◌*◌, ◌/◌, ◌^◌, ◌≤◌, ◌≡◌, Bool, true, false, cond, eqb, length, drop, None, Option, Some}
use Rattle.std.proofs.Common.{sym, mod-lt, pow_pos, length-take}
use mathlib.Core.List.{List, [], ◌∷◌, ◌++◌, flat_map, append-nil, append_assoc}
use native.Mathlib.Omega.{arith}
use Rattle.std.proofs.Math.ListN.{length-append}
use Rattle.bits.specs.Bytes.{◌!◌, part}
use Rattle.standard_record.specs.declared.DetailedTiming.{DetailedTiming}
use Rattle.standard_timing.specs.Timing.{timing_in}
use Rattle.cta_reading.specs.Along.{Row, none, step}
use Rattle.cta_reading.specs.Cta.{tag_at, length_at, end_at, video_at, data_block, block_at, listed, timing_at}

-- ---- of any parts

module _ {A : Type 0} (f : ℕ → List A) where
  pub flat_snoc : (ps : List ℕ) (p : ℕ) → flat_map f (ps ++ p ∷ []) ≡ flat_map f ps ++ f p
  unfolding flat_map
  flat_snoc [] p = append-nil (f p)
  flat_snoc (x ∷ xs) p = rw (flat_snoc xs p) (sym (append_assoc (f x) (flat_map f xs) (f p)))

  -- at most k a place
  pub flat_at_most : (k : ℕ) → ((p : ℕ) → length (f p) ≤ k) → (ps : List ℕ) → length (flat_map f ps) ≤ k * length ps
  unfolding flat_map
  flat_at_most k h [] = omega arith
  flat_at_most k h (x ∷ xs) = omega (arith, h x, flat_at_most k h xs, length-append (f x) (flat_map f xs))

-- ---- of one place

module _ (s : List ℕ) (p : ℕ) where
  video_length : length (video_at s p) ≤ length_at s p
  video_length = go (eqb (tag_at s p) 2)
    where
      go : (t : Bool) → length (cond t (part s (p + 1) (length_at s p)) []) ≤ length_at s p
      go true = omega (arith, length-take (length_at s p) (drop (p + 1) s))
      go false = omega arith

  video_31 : length (video_at s p) ≤ 31
  video_31 = let h = mod-lt (s ! p / 2 ^ 0) (pow_pos 5) in omega (arith, video_length)

  block_1 : length (block_at s p) ≤ 1
  block_1 = go (eqb (tag_at s p) 2)
    where
      go : (t : Bool) → length (cond t [] (data_block s p ∷ [])) ≤ 1
      go true = omega arith
      go false = omega arith

  pub timing_1 : length (timing_at s p) ≤ 1
  timing_1 = go (timing_in (part s p 18))
    where
      go : (t : Option DetailedTiming) → length (listed t) ≤ 1
      go (Some t) = omega arith
      go None = omega arith

-- ---- of a chain

-- a walk never goes back
pub row_up : {more : ℕ → Bool} {behind : ℕ → ℕ} → ((p : ℕ) → p ≤ behind p) → {p q : ℕ} {ps : List ℕ} → Row more behind p ps q → p ≤ q
row_up up none = omega arith
row_up up {p = p} (step m h) = omega (arith, up p, row_up up h)

module _ (s : List ℕ) where
  -- each block takes a byte beside those that it shows
  video_room : {more : ℕ → Bool} {p q : ℕ} {ps : List ℕ} → Row more (end_at s) p ps q → length (flat_map (video_at s) ps) + length ps + p ≤ q
  unfolding flat_map
  video_room none = omega arith
  video_room {p = p} {ps = x ∷ ps} (step m h) = omega (arith, video_room h, video_length s p, length-append (video_at s p) (flat_map (video_at s) ps))

  -- blocks from byte 4 up to byte q
  pub record Few (ps : List ℕ) (q : ℕ) : Type 0 where
    pub all : length ps + 4 ≤ q
    pub video : length (flat_map (video_at s) ps) ≤ 119
    pub blocks : length (flat_map (block_at s) ps) ≤ length ps

  pub few : {more : ℕ → Bool} {ps : List ℕ} {q : ℕ} → Row more (end_at s) 4 ps q → q ≤ 127 → Few ps q
  few {ps = ps} h l =
      record {
        all = omega (arith, video_room h);
        video = omega (arith, video_room h, flat_at_most (video_at s) 31 (video_31 s) ps);
        blocks = omega (arith, flat_at_most (block_at s) 1 (block_1 s) ps);
      }

-- a place 18 bytes behind the one before
pub spaced : {more : ℕ → Bool} {p q : ℕ} {ps : List ℕ} → Row more (λ p. p + 18) p ps q → q ≡ p + 18 * length ps
spaced none = omega arith
spaced (step m h) = omega (arith, spaced h)
