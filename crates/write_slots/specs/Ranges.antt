-- Laws: a slot of range limits, with its secondary timing.
use Rattle.std.specs.Prelude.{ℕ, suc, ◌+◌, ◌*◌, ◌/◌, ◌%◌, ◌<◌, ◌≤◌, ◌≡◌, Bool, true, false, cond, not, List, ◌++◌, eqb, ltb}
use Rattle.std.proofs.Math.Path.{refl, subst}
use Rattle.std.proofs.Common.{sym, ap, ◌∙◌, length-take, length-drop, take_all, eqb-true, eq-eqb, ltb-true, lt-ltb}
use native.Mathlib.Omega.{arith}
use Rattle.std.proofs.Math.ListN.{length}
use Rattle.std.proofs.lemmas.Bool.{not-true}
use Rattle.bits.specs.Bytes.{◌!◌, part}
use Rattle.bits.specs.Fields.{digits}
use Rattle.tags.specs.Tags.{tag_of}
use Rattle.standard_record.specs.declared.Limits.{Limits}
use Rattle.standard_record.specs.declared.SecondaryTiming.{SecondaryTiming}
use Rattle.standard_record.specs.declared.Descriptor.{Descriptor}
use Rattle.standard_parts.specs.Structure.{since4}
use Rattle.standard_parts.specs.Descriptors.{to_min, to_max, offsets_of, limits_of, secondary_of, closing_refusal, range_refusal}
use Rattle.standard_parts.specs.declared.Structure.{Structure}
use Rattle.standard_slots.specs.Spans.{SoundSecond}
use Rattle.standard_slots.specs.Said.{limits_in, range_in, said}
use Rattle.write_leaf.specs.Bytes.{Bytes, low}
use Rattle.write_leaf.specs.Digits.{both_hold, two_hold, three_hold, four_hold}
use Rattle.write_slots.specs.Words.{Secondary, none, gtf, other, range, bytes_of, secondary, words}
use Rattle.write_slots.specs.Slot.{headed, offset_code, offsets_byte, limits_bytes, secondary_bytes}
use Rattle.write_slots.specs.Writes.{ReadsDescriptor, WritesDescriptor}
use Rattle.write_slots.specs.Tests.{exact, counted, secondary_fits, ends_fit, limits_fit, range_fits}
use Rattle.write_slots.specs.Runs.{pad_whole, pad_size}
use Rattle.write_slots.specs.Tells.{tells}
use Rattle.write_slots.specs.Limits.{code_under, ends_back, lowest, again, limits_back, limits_fit_lem}
use Rattle.write_slots.specs.Descriptors.{Shown, shown_size, exact_is, is_exact}

-- ---- from the bytes

abbrev slot : Limits → Secondary → List ℕ
slot l s = headed 0xfd (offsets_byte l) (limits_bytes l ++ secondary_bytes s)

none_shown : (σ : Structure) (l : Limits) → Shown σ (slot l none) (range (again σ l) none)
unfolding said tag_of range_refusal closing_refusal range_in secondary_of
none_shown σ l = refl

gtf_shown : (σ : Structure) (l : Limits) (start c m k j : ℕ) → counted 2000 start ≡ true → m < 65536 → Shown σ (slot l (gtf start c m k j)) (range (again σ l) (gtf start c m k j))
unfolding said tag_of range_refusal range_in secondary_of
gtf_shown σ l start c m k j h e =
    let m-is : low m + 256 * low (m / 256) ≡ m = omega arith in
    rw (eqb-true (low (start / 2000) * 2000) start h, m-is)

other_shown : (σ : Structure) (l : Limits) (kind : ℕ) (run : List ℕ) → eqb kind 0 ≡ false → eqb kind 2 ≡ false → length run ≡ 7
    → Shown σ (slot l (other kind run)) (range (again σ l) (other kind run))
unfolding said tag_of range_refusal range_in secondary_of
other_shown σ l kind run h k e = rw (pad_whole 7 run e, h, k, take_all 7 run (omega arith))

secondary_shown : (σ : Structure) (lent : List ℕ) (l : Limits) (s : SecondaryTiming) → secondary_fits s (length lent) ≡ true
    → SoundSecond s (length lent) × Shown σ (slot l (secondary lent s)) (range (again σ l) (secondary lent s))
secondary_shown σ lent l SecondaryTiming.None h = (tt, none_shown σ l)
secondary_shown σ lent l (SecondaryTiming.GTF start c m k j) h =
    let p = both_hold (ltb m 65536) (counted 2000 start) h in
    (tt, gtf_shown σ l start c m k j p.1 (ltb-true m 65536 p.0))
secondary_shown σ lent l (SecondaryTiming.Other kind s) h =
    let p = three_hold (not (eqb kind 0)) (not (eqb kind 2)) (exact 7 s (length lent)) h in
    let q = exact_is 7 s (length lent) p.2 in
    (q.1, other_shown σ l kind (bytes_of lent s) (not-true _ p.0) (not-true _ p.1) (shown_size lent s q.1 ∙ q.0))

-- ---- and back

counted_starts : (b : ℕ) → b < 256 → counted 2000 (b * 2000) ≡ true
counted_starts b h = eq-eqb (low (b * 2000 / 2000) * 2000) (b * 2000) (omega arith)

-- what is read as a secondary timing, by the two tests of its kind
module _ (t : List ℕ) (kind b12 b13 b14 b15 b16 b17 : ℕ) (z y : Bool) where
  abbrev pub second : Secondary
  second =
      secondary t (cond z SecondaryTiming.None
      (cond y (SecondaryTiming.GTF (b12 * 2000) b13 (b14 + 256 * b15) b16 b17) (SecondaryTiming.Other kind (record { start = 11; len = 7 }))))

gtf_back : (t : List ℕ) (kind b12 b13 b14 b15 b16 b17 : ℕ) (z y : Bool) (start c m k j : ℕ)
    → second t kind b12 b13 b14 b15 b16 b17 z y ≡ gtf start c m k j → (b12 * 2000 ≡ start) × (b14 + 256 * b15 ≡ m)
gtf_back t kind b12 b13 b14 b15 b16 b17 true y start c m k j e = (cc, cc)
gtf_back t kind b12 b13 b14 b15 b16 b17 false true start c m k j e = (cc, cc)
gtf_back t kind b12 b13 b14 b15 b16 b17 false false start c m k j e = (cc, cc)

other_back : (t : List ℕ) (kind b12 b13 b14 b15 b16 b17 : ℕ) (z y : Bool) (n : ℕ) (run : List ℕ)
    → second t kind b12 b13 b14 b15 b16 b17 z y ≡ other n run → (z ≡ false) × (y ≡ false) × (kind ≡ n) × (part t 11 7 ≡ run)
other_back t kind b12 b13 b14 b15 b16 b17 true y n run e = (cc, cc, cc, cc)
other_back t kind b12 b13 b14 b15 b16 b17 false true n run e = (cc, cc, cc, cc)
other_back t kind b12 b13 b14 b15 b16 b17 false false n run e = (refl, refl, cc, cc)

module _ (lent t : List ℕ) (size : length t ≡ 18) (b : Bytes t) where
  secondary_fits_lem : (s : SecondaryTiming) → SoundSecond s (length lent)
      → secondary t (secondary_of (t ! 10) (t ! 12) (t ! 13) (t ! 14) (t ! 15) (t ! 16) (t ! 17) (record { start = 11; len = 7 })) ≡ secondary lent s
      → secondary_fits s (length lent) ≡ true
  unfolding secondary_of
  secondary_fits_lem SecondaryTiming.None h e = refl
  secondary_fits_lem (SecondaryTiming.GTF start c m k j) h e =
      let q = gtf_back t (t ! 10) (t ! 12) (t ! 13) (t ! 14) (t ! 15) (t ! 16) (t ! 17) (eqb (t ! 10) 0) (eqb (t ! 10) 2) start c m k j e in
      rw (lt-ltb m 65536 (omega (arith, q.1, b 14, b 15)), ← q.0) (counted_starts (t ! 12) (b 12))
  secondary_fits_lem (SecondaryTiming.Other kind s) h e =
      let q =
      other_back t (t ! 10) (t ! 12) (t ! 13) (t ! 14) (t ! 15) (t ! 16) (t ! 17) (eqb (t ! 10) 0) (eqb (t ! 10) 2) kind (bytes_of lent s) e in
      let z : length (part t 11 7) ≡ 7 = simp (length-take, length-drop) (omega arith) in
      rw (← q.2, q.0, q.1, is_exact 7 s lent h (ap length (sym q.3) ∙ z))

  range_fits_lem : (σ : Structure) (l : Limits) (s : SecondaryTiming) → SoundSecond s (length lent) → words t (range_in σ t 0) ≡ range l (secondary lent s)
      → range_fits σ l s (length lent) ≡ true
  unfolding range_in
  range_fits_lem σ l s h e =
      let l-is : limits_of (offsets_of σ (t ! 4)) (t ! 5) (t ! 6) (t ! 7) (t ! 8) (t ! 9) ≡ l = cc in
      rw (secondary_fits_lem s h (cc), limits_fit_lem σ l (t ! 4) (t ! 5) (t ! 6) (t ! 7) (t ! 8) (t ! 9) (b 5) (b 6) (b 7) (b 8) (b 9) l-is)

-- ---- the offsets

offsets_under : (σ : Structure) (b : ℕ) → (digits (offsets_of σ b) 0 2 ≤ digits b 0 2) × (digits (offsets_of σ b) 2 2 ≤ digits b 2 2)
offsets_under σ b = go (since4 σ)
  where
    go : (z : Bool) → (digits (cond z b 0) 0 2 ≤ digits b 0 2) × (digits (cond z b 0) 2 2 ≤ digits b 2 2)
    go true = omega arith
    go false = omega arith

-- any bytes t that are read as these limits
module _ (σ : Structure) (lent t : List ℕ) (l : Limits) (s : SecondaryTiming) (b : Bytes t) (r : ReadsDescriptor σ lent t (Descriptor.Range l s)) where
  limits_are : limits_in σ t ≡ l
  unfolding range_in
  limits_are = let e = tells t r.1.size b σ (range l (secondary lent s)) r.1.shown in cc

  -- have no lower codes than those that are written
  pub lowest_codes : (digits (offsets_byte l) 0 2 ≤ digits (t ! 4) 0 2) × (digits (offsets_byte l) 2 2 ≤ digits (t ! 4) 2 2)
  unfolding limits_of
  lowest_codes =
      let o = offsets_of σ (t ! 4) in
      let least : (t ! 7 + to_min (digits o 2 2)) * 1000 / 1000 ≡ t ! 7 + to_min (digits o 2 2) = omega arith in
      let most : (t ! 8 + to_max (digits o 2 2)) * 1000 / 1000 ≡ t ! 8 + to_max (digits o 2 2) = omega arith in
      let v = subst (λ (k : Limits). offset_code k.vmin k.vmax ≤ digits o 0 2) limits_are (lowest (digits o 0 2) (t ! 5) (t ! 6) (omega arith) (b 5) (b 6)) in
      let h = subst (λ (k : Limits). offset_code (k.hmin / 1000) (k.hmax / 1000) ≤ digits o 2 2) limits_are
      (rw (least, most) (lowest (digits o 2 2) (t ! 7) (t ! 8) (omega arith) (b 7) (b 8))) in
      omega (arith, v, h, code_under l.vmin l.vmax, code_under (l.hmin / 1000) (l.hmax / 1000), offsets_under σ (t ! 4))

  -- below revision 4 no code is written
  pub no_codes : since4 σ ≡ false → offsets_byte l ≡ 0
  no_codes old =
      let p = four_hold (ends_fit σ l.vmin l.vmax) (ends_fit σ (l.hmin / 1000) (l.hmax / 1000)) (eqb (l.hmin % 1000 + l.hmax % 1000) 0) (counted 10000000 l.clock)
      (limits_fit_lem σ l (t ! 4) (t ! 5) (t ! 6) (t ! 7) (t ! 8) (t ! 9) (b 5) (b 6) (b 7) (b 8) (b 9) limits_are) in
      omega (arith, (ends_back l.vmin l.vmax σ p.0).2 old, (ends_back (l.hmin / 1000) (l.hmax / 1000) σ p.1).2 old)

-- ---- the slot

pub secondary_size : (s : Secondary) → length (secondary_bytes s) ≡ 8
secondary_size none = refl
secondary_size (gtf start c m k j) = refl
secondary_size (other kind run) = ap suc (pad_size 7 run)

pub writes_range : (σ : Structure) (lent : List ℕ) (l : Limits) (s : SecondaryTiming)
    → WritesDescriptor σ lent (Descriptor.Range l s) (range_fits σ l s (length lent)) (slot l (secondary lent s))
writes_range σ lent l s =
    record {
      made = refl;
      sound = λ h.
          let p = two_hold (limits_fit σ l) (secondary_fits s (length lent)) h in
          let q = secondary_shown σ lent l s p.1 in
          (q.0, record { size = omega (arith, secondary_size (secondary lent s)); shown = rw (limits_back σ l p.0) at q.1 });
      complete = λ t h r. range_fits_lem lent t r.1.size h σ l s r.0 (tells t r.1.size h σ (range l (secondary lent s)) r.1.shown);
    }
