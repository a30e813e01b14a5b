-- Laws: the two ends of a range with the code of their offset, and the limits of which there are two such ranges.
use Rattle.std.specs.Prelude.{ℕ, zero, suc, ◌+◌, ◌-◌, ◌*◌, ◌/◌, ◌%◌, ◌<◌, ◌≤◌, ◌≡◌, refl, Bool, true, ◌||◌, cond, eqb, leb}
use Rattle.std.proofs.Math.Bool.{false}
use native.Mathlib.Omega.{arith}
use borrow.Author.Tests.{eqb-true, eq-eqb, leb-true, leb-false, lt-leb}
use Rattle.bits.specs.Fields.{digits}
use Rattle.standard_record.specs.declared.Limits.{Limits}
use Rattle.standard_parts.specs.Structure.{since4}
use Rattle.standard_parts.specs.Descriptors.{to_min, to_max, offsets_of, limits_of}
use Rattle.standard_parts.specs.declared.Structure.{Structure}
use Rattle.write_leaf.specs.Bytes.{digit, low}
use Rattle.write_leaf.specs.Digits.{three_hold, four_hold}
use Rattle.write_slots.specs.Slot.{offset_code, offsets_byte}
use Rattle.write_slots.specs.Tests.{counted, ends_fit, limits_fit}

counted_clocks : (b : ℕ) → b < 256 → counted 10000000 (b * 10000000) ≡ true
counted_clocks b h = eq-eqb (low (b * 10000000 / 10000000) * 10000000) (b * 10000000) (omega arith)

-- ---- the two ends of a range

module _ (min max : ℕ) where
  abbrev code : ℕ
  code = offset_code min max

  pub code_under : code ≤ 3
  code_under = go (leb 256 min) (leb 256 max)
    where
      go : (x y : Bool) → cond x 3 (cond y 2 0) ≤ 3
      go true y = omega arith
      go false true = omega arith
      go false false = omega arith

  pub ends_back : (σ : Structure) → ends_fit σ min max ≡ true
      → (low (min - to_min code) + to_min code ≡ min) × (low (max - to_max code) + to_max code ≡ max) × (since4 σ ≡ false → code ≡ 0)
  ends_back σ h =
      let p = three_hold (eqb (low (min - to_min code) + to_min code) min) (eqb (low (max - to_max code) + to_max code) max) (since4 σ || eqb code 0) h in
      (eqb-true _ _ p.0, eqb-true _ _ p.1, λ old. eqb-true code 0 (rw old at p.2))

  -- what is read with some code, below revision 4 with none
  record Ends (σ : Structure) : Type 0 where
    upper : max ≤ 510
    lower : 256 ≤ min → (min ≤ 510) × (255 ≤ max)
    old : since4 σ ≡ false → (min ≤ 255) × (max ≤ 255)

  ends_fit_lem : (σ : Structure) → Ends σ → ends_fit σ min max ≡ true
  ends_fit_lem σ e = go (leb 256 min) (leb 256 max) (since4 σ) refl refl refl
    where
      go : (x y z : Bool) → leb 256 min ≡ x → leb 256 max ≡ y → since4 σ ≡ z → ends_fit σ min max ≡ true
      go true y true p q r =
          let k = leb-true 256 min p in
          let l = e.lower k in
          let u = e.upper in
          rw (p, r, eq-eqb (low (min - 255) + 255) min (omega arith), eq-eqb (low (max - 255) + 255) max (omega arith))
      go false true true p q r =
          let l = leb-false 256 min p in
          let h = leb-true 256 max q in
          let u = e.upper in
          rw (p, q, r, eq-eqb (low (min - 0) + 0) min (omega arith), eq-eqb (low (max - 255) + 255) max (omega arith))
      go false false z p q r =
          let l = leb-false 256 min p in
          let h = leb-false 256 max q in
          rw (p, q, eq-eqb (low (min - 0) + 0) min (omega arith), eq-eqb (low (max - 0) + 0) max (omega arith)) (either z r)
        where
          either : (z : Bool) → since4 σ ≡ z → eqb (1 + 1 + digit (since4 σ || true)) 3 ≡ true
          either true r = rw r
          either false r = rw r
      go true y false p q r = let o = e.old r in absurd (omega (arith, leb-true 256 min p))
      go false true false p q r = let o = e.old r in absurd (omega (arith, leb-true 256 max q))

-- two bytes and a code
ends_of : (σ : Structure) (code a b : ℕ) → code < 4 → a < 256 → b < 256 → (since4 σ ≡ false → code ≡ 0) → Ends (a + to_min code) (b + to_max code) σ
ends_of σ zero a b few ha hb old = record { upper = omega arith; lower = λ h. absurd (omega arith); old = λ e. omega arith }
ends_of σ (suc zero) a b few ha hb old = record { upper = omega arith; lower = λ h. absurd (omega arith); old = λ e. omega arith }
ends_of σ (suc (suc zero)) a b few ha hb old = record { upper = omega arith; lower = λ h. absurd (omega arith); old = λ e. absurd (omega (arith, old e)) }
ends_of σ (suc (suc (suc zero))) a b few ha hb old = record { upper = omega arith; lower = λ h. omega arith; old = λ e. absurd (omega (arith, old e)) }
ends_of σ (suc (suc (suc (suc code)))) a b few ha hb old = absurd (omega arith)

-- no code that they are read with is lower than the one that they are written with
pub lowest : (code a b : ℕ) → code < 4 → a < 256 → b < 256 → offset_code (a + to_min code) (b + to_max code) ≤ code
lowest zero a b few ha hb = rw (lt-leb 256 (a + 0) (omega arith), lt-leb 256 (b + 0) (omega arith)) (omega arith)
lowest (suc zero) a b few ha hb = rw (lt-leb 256 (a + 0) (omega arith), lt-leb 256 (b + 0) (omega arith)) (omega arith)
lowest (suc (suc zero)) a b few ha hb = rw (lt-leb 256 (a + 0) (omega arith)) (go (leb 256 (b + 255)))
  where
    go : (y : Bool) → cond y 2 0 ≤ 2
    go true = omega arith
    go false = omega arith
lowest (suc (suc (suc zero))) a b few ha hb = code_under (a + 255) (b + 255)
lowest (suc (suc (suc (suc code)))) a b few ha hb = absurd (omega arith)

-- ---- the limits

module _ (σ : Structure) (l : Limits) where
  abbrev v : ℕ
  v = offset_code l.vmin l.vmax

  abbrev h : ℕ
  h = offset_code (l.hmin / 1000) (l.hmax / 1000)

  abbrev pub again : Limits
  again =
      limits_of (offsets_of σ (offsets_byte l)) (low (l.vmin - to_min v)) (low (l.vmax - to_max v)) (low (l.hmin / 1000 - to_min h))
      (low (l.hmax / 1000 - to_max h)) (low (l.clock / 10000000))

  -- the byte of the offsets is read where it is not 0
  offsets_back : (since4 σ ≡ false → v ≡ 0) → (since4 σ ≡ false → h ≡ 0) → offsets_of σ (offsets_byte l) ≡ offsets_byte l
  offsets_back p q = go (since4 σ) refl
    where
      go : (z : Bool) → since4 σ ≡ z → offsets_of σ (offsets_byte l) ≡ offsets_byte l
      go true e = rw e
      go false e = rw e (omega (arith, p e, q e))

  pub limits_back : limits_fit σ l ≡ true → again ≡ l
  unfolding limits_of
  limits_back e =
      let p = four_hold (ends_fit σ l.vmin l.vmax) (ends_fit σ (l.hmin / 1000) (l.hmax / 1000)) (eqb (l.hmin % 1000 + l.hmax % 1000) 0) (counted 10000000 l.clock) e in
      let vs = ends_back l.vmin l.vmax σ p.0 in
      let hs = ends_back (l.hmin / 1000) (l.hmax / 1000) σ p.1 in
      let whole = eqb-true (l.hmin % 1000 + l.hmax % 1000) 0 p.2 in
      let least : l.hmin / 1000 * 1000 ≡ l.hmin = omega arith in
      let most : l.hmax / 1000 * 1000 ≡ l.hmax = omega arith in
      let few = code_under l.vmin l.vmax in
      let v-is : digits (offsets_byte l) 0 2 ≡ v = omega arith in
      let h-is : digits (offsets_byte l) 2 2 ≡ h = omega (arith, code_under (l.hmin / 1000) (l.hmax / 1000)) in
      rw (offsets_back vs.2 hs.2, v-is, h-is, vs.0, vs.1, hs.0, hs.1, least, most, eqb-true (low (l.clock / 10000000) * 10000000) l.clock p.3)

  -- what six bytes are read as fits
  pub limits_fit_lem : (b4 b5 b6 b7 b8 b9 : ℕ) → b5 < 256 → b6 < 256 → b7 < 256 → b8 < 256 → b9 < 256 → limits_of (offsets_of σ b4) b5 b6 b7 b8 b9 ≡ l
      → limits_fit σ l ≡ true
  unfolding limits_of
  limits_fit_lem b4 b5 b6 b7 b8 b9 h5 h6 h7 h8 h9 e =
      let o = offsets_of σ b4 in
      let old : since4 σ ≡ false → o ≡ 0 = λ z. rw z in
      let least : (b7 + to_min (digits o 2 2)) * 1000 / 1000 ≡ b7 + to_min (digits o 2 2) = omega arith in
      let most : (b8 + to_max (digits o 2 2)) * 1000 / 1000 ≡ b8 + to_max (digits o 2 2) = omega arith in
      rw (
        ← e,
        least,
        most,
        ends_fit_lem (b5 + to_min (digits o 0 2)) (b6 + to_max (digits o 0 2)) σ (ends_of σ (digits o 0 2) b5 b6 (omega arith) h5 h6 (λ z. omega (arith, old z))),
        ends_fit_lem (b7 + to_min (digits o 2 2)) (b8 + to_max (digits o 2 2)) σ (ends_of σ (digits o 2 2) b7 b8 (omega arith) h7 h8 (λ z. omega (arith, old z))),
        eq-eqb ((b7 + to_min (digits o 2 2)) * 1000 % 1000 + (b8 + to_max (digits o 2 2)) * 1000 % 1000) 0 (omega arith),
        counted_clocks b9 h9,
      )
