-- What an extension has passed whose data blocks and timings are looked at.
use Rattle.std.specs.Prelude.{ℕ, ◌+◌, ◌≤◌, ◌≡◌, Bool, ◌&&◌, ◌||◌, ◌⊎◌, ltb, leb, length, Ok}
use Rattle.std.proofs.Math.Path.{refl}
use Rattle.std.proofs.Common.{inl, inr, ⊎_elim, arith}
use Rattle.std.proofs.Math.Bool.{true, false, cond}
use mathlib.Core.List.{List, []}
use Rattle.std.proofs.Math.Dec.{eqb}
use borrow.Author.Tests.{eqb-true, eqb-false, leb-true, ne_eqb}
use Rattle.bits.specs.Bytes.{◌!◌}
use Rattle.sums.specs.Sum.{byte_sum}
use Rattle.standard_record.specs.Verdict.{Verdict}
use Rattle.standard_verdict.specs.Verdict.{refused_at, must, ◌then◌}
use Rattle.cta_reading.specs.Along.{along, Row}
use Rattle.cta_reading.specs.Cta.{offset_in, end_at, is_timing, timings_in, is_offset, before_blocks}

and_first : (a b : Bool) → (a && b) ≡ true → a ≡ true
and_first true b e = refl
and_first false b e = e

and_second : (a b : Bool) → (a && b) ≡ true → b ≡ true
and_second true b e = e
and_second false b e = cc

pub offset_is : (d : ℕ) → is_offset d ≡ true → (d ≡ 0) ⊎ ((4 ≤ d) × (d ≤ 127))
offset_is d e = go (eqb d 0) refl e
  where
    go : (t : Bool) → eqb d 0 ≡ t → (t || (leb 4 d && leb d 127)) ≡ true → (d ≡ 0) ⊎ ((4 ≤ d) × (d ≤ 127))
    go true z e = inl (eqb-true d 0 z)
    go false z e = inr (leb-true 4 d (and_first (leb 4 d) (leb d 127) e), leb-true d 127 (and_second (leb 4 d) (leb d 127) e))

pub offset_below : (d : ℕ) → is_offset d ≡ true → d ≤ 127
offset_below d e = ⊎_elim (λ z. omega arith) (λ b. b.1) (offset_is d e)

-- the data blocks, and the timings, up to p: each begins where the one before ended
abbrev pub BlocksUpTo : List ℕ → List ℕ → ℕ → Type 0
BlocksUpTo s ps p = Row (λ p. ltb p (offset_in s)) (end_at s) 4 ps p

abbrev pub TimingsUpTo : List ℕ → List ℕ → ℕ → Type 0
TimingsUpTo s ps p = Row (is_timing s) (λ p. p + 18) (offset_in s) ps p

-- where the walk along the timings begins: at byte 127, where none can begin, if the offset is 0
abbrev pub start : ℕ → ℕ
start d = cond (eqb d 0) 127 d

pub start_bounds : (d : ℕ) → is_offset d ≡ true → (4 ≤ start d) × (start d ≤ 127)
start_bounds d e = ⊎_elim (λ z. rw z (omega arith, omega arith)) (λ b. rw (ne_eqb d 0 (λ z. omega arith)) b) (offset_is d e)

-- what has passed that is judged before the data blocks
pub record Head (s : List ℕ) : Type 0 where
  pub size : length s ≡ 128
  pub sum : byte_sum s ≡ 0
  pub tag : s ! 0 ≡ 0x02
  pub offset : is_offset (offset_in s) ≡ true

module _ (s : List ℕ) where
  -- what holds with each refusal, and with none, holds of the verdict
  pub before_by : (P : Verdict → Type 0) → ((length s ≡ 128 → ⊥) → P (refused_at 7 0))
      → (length s ≡ 128 → (byte_sum s ≡ 0 → ⊥) → P (refused_at 8 127))
      → (length s ≡ 128 → byte_sum s ≡ 0 → (s ! 0 ≡ 0x02 → ⊥) → P (refused_at 12 0))
      → (length s ≡ 128 → byte_sum s ≡ 0 → s ! 0 ≡ 0x02 → is_offset (offset_in s) ≡ false → P (refused_at 13 2))
      → (Head s → P (Ok tt)) → P (before_blocks s)
  unfolding before_blocks
  before_by P r7 r8 r12 r13 ok = go (eqb (length s) 128) refl (eqb (byte_sum s) 0) refl (eqb (s ! 0) 0x02) refl (is_offset (offset_in s)) refl
    where
      go : (a : Bool) → eqb (length s) 128 ≡ a → (b : Bool) → eqb (byte_sum s) 0 ≡ b → (c : Bool) → eqb (s ! 0) 0x02 ≡ c
          → (d : Bool) → is_offset (offset_in s) ≡ d → P (must a 7 0 then must b 8 127 then must c 12 0 then must d 13 2)
      go false i b j c k d l = r7 (eqb-false _ _ i)
      go true i false j c k d l = r8 (eqb-true _ _ i) (eqb-false _ _ j)
      go true i true j false k d l = r12 (eqb-true _ _ i) (eqb-true _ _ j) (eqb-false _ _ k)
      go true i true j true k false l = r13 (eqb-true _ _ i) (eqb-true _ _ j) (eqb-true _ _ k) l
      go true i true j true k true l = ok (record { size = eqb-true _ _ i; sum = eqb-true _ _ j; tag = eqb-true _ _ k; offset = l })

  pub timing_ends : (p : ℕ) → is_timing s p ≡ true → p + 18 ≤ 127
  timing_ends p e = leb-true (p + 18) 127 (and_first _ _ e)

  pub timings_from : timings_in s ≡ along (is_timing s) (λ p. p + 18) 6 (start (offset_in s))
  unfolding timings_in
  timings_from = go (eqb (offset_in s) 0)
    where
      go : (t : Bool) → cond t [] (along (is_timing s) (λ p. p + 18) 6 (offset_in s)) ≡ along (is_timing s) (λ p. p + 18) 6 (cond t 127 (offset_in s))
      go true = refl
      go false = refl
