-- One slot, kind by kind: without a mark the crate reading takes its 18 bytes, and what it lists is what the standard slot lists, converted.
-- b0 to b17 are its bytes, `rest` what follows, `at` its place. F is to hold of the number of each refusal: the standard slot is refused with the same
-- number, but for a text that is filled up with something else than spaces.
use Prim.Native.Nat.{ℕ, zero, suc, ◌+◌, ◌*◌, ◌<◌}
use Rattle.std.specs.Prelude.{◌≡◌, Bool, true, cond, not, leb, ltb, drop, Ok, Err, Some}
use Rattle.std.proofs.Math.Path.{refl, sym, ap, subst}
use Rattle.std.proofs.Common.{◌∙◌}
use Rattle.std.proofs.Math.Bool.{false}
use Rattle.std.proofs.lemmas.Bool.{false≢true}
use mathlib.Core.List.{List, [], ◌∷◌, ◌++◌, map, map-append}
use native.Mathlib.Omega.{arith}
use Rattle.std.proofs.Math.Dec.{eqb}
use borrow.Author.Tests.{ne_eqb, leb-false}
use Rattle.bits.specs.Fields.{digits}
use Rattle.steps.specs.Steps.{done, ◌>>=◌}
use Rattle.steps.specs.Leaves.{byte, word}
use Rattle.steps.specs.declared.Span.{Span}
use Rattle.tags.specs.Tags.{tag_of}
use Rattle.tags.specs.declared.Tag.{Tag}
use Rattle.crate_record.specs.declared.StandardTiming.{StandardTiming as CratePair}
use Rattle.crate_record.specs.declared.DetailedTiming.{DetailedTiming as CrateTiming}
use Rattle.crate_record.specs.declared.WhitePoint.{WhitePoint as CratePoint}
use Rattle.crate_record.specs.declared.SecondaryTiming.{SecondaryTiming as CrateSecond}
use Rattle.crate_record.specs.declared.MonitorDescriptor.{MonitorDescriptor}
use Rattle.crate_detailed.specs.Detailed.{detailed}
use Rattle.crate_descriptors.specs.Descriptors as crate
use Rattle.crate_descriptors.specs.declared.Points.TheVariants.{Two}
use Rattle.crate_descriptors.specs.declared.Slot.{Slot}
use Rattle.crate_text.specs.Text.{skip, span, text}
use Rattle.crate_timings.specs.Pairs.{pairs}
use Rattle.crate_slots.specs.Slots as slots
use Rattle.crate_end.specs.Ends.{said_at}
use Rattle.standard_record.specs.declared.Descriptor.{Descriptor}
use Rattle.standard_record.specs.declared.SecondaryTiming.{SecondaryTiming}
use Rattle.standard_parts.specs.Color.{point_of}
use Rattle.standard_parts.specs.Text.{text_length, all_spaces}
use Rattle.standard_parts.specs.Structure.{since4}
use Rattle.standard_parts.specs.Descriptors.{secondary_of, range_refusal}
use Rattle.standard_parts.specs.declared.Structure.{Structure}
use Rattle.standard_slots.specs.Said.{Said, refusal, Lists, lists, of_point, of_timed, point_at, text_in, text_as, range_in, by_tag, said}
use Rattle.standard_timing.specs.Timing.{timing_in}
use Rattle.standard_reading.specs.Slots.{judge}
use Rattle.write_leaf.specs.Bytes.{Bytes}
use Rattle.write_leaf.specs.Again.{drop_bytes}
use Rattle.marking.specs.Marks.{active_low_zero, tag10, index_zero, gamma_ff, codes_zero, pairs_zero}
use Rattle.differences.specs.Converted.{point_from, pair_from, timing_from, second_from, descriptor_from}
use Rattle.differences.specs.Unmarked.{offsets_add, other_fill}
use Rattle.differences.specs.Along.{Along, along_map, along_then, along_if, along_ensured}
use Rattle.differences.specs.Leaves.{through, limits_agree, point_agrees}
use Rattle.differences.specs.Pairs.{nor, PairsRead, pairs_along}
use Rattle.differences.specs.Timed.{TimingRead, timing_along}
use Rattle.differences.specs.Closings.{TextRead, text_along, closing_then}

-- what a slot lists, converted
abbrev plain : List CratePair → List CrateTiming → List CratePoint → List MonitorDescriptor → slots.Plain
plain ss ts ws ds = record { standards = ss; timings = ts; points = ws; descriptors = ds }

abbrev pub plain_from : Lists → slots.Plain
plain_from l = plain (map pair_from l.pairs) (map timing_from l.timings) (map point_from l.points) (map descriptor_from l.descriptors)

-- no mark in the slot t; and no offsets, where Still holds
pub record Clean (Still : Type 0) (σ : Structure) (t : List ℕ) : Type 0 where
  pub bytes : Bytes t
  pub active : active_low_zero t ≡ false
  pub dummy : tag10 t ≡ false
  pub index : index_zero t ≡ false
  pub gamma : gamma_ff t ≡ false
  pub ratio : σ ≡ Structure.Below3 → pairs_zero t ≡ false
  pub still : Still → since4 σ ≡ true → offsets_add t ≡ false

-- what the name of a tag says of its number b
abbrev Known : ℕ → Tag → Type 0
Known b Tag.Dummy = eqb b 0x10 ≡ true
Known b Tag.Pairs = eqb b 0xfa ≡ true
Known b Tag.Points = eqb b 0xfb ≡ true
Known b Tag.Name = eqb b 0xfc ≡ true
Known b Tag.Range = eqb b 0xfd ≡ true
Known b Tag.Text = (eqb b 0xfc ≡ false) × (eqb b 0xfe ≡ true)
Known b Tag.Serial = (eqb b 0xfc ≡ false) × (eqb b 0xfe ≡ false) × (eqb b 0xff ≡ true)
Known b Tag.Raw = Unit {0}

known : (b : ℕ) → Known b (tag_of b)
unfolding tag_of
known b = go (eqb b 0x10) (eqb b 0xfa) (eqb b 0xfb) (eqb b 0xfc) (eqb b 0xfd) (eqb b 0xfe) (eqb b 0xff) refl refl refl refl refl refl refl
  where
    go : (ten fa fb fc fd fe ff : Bool) → eqb b 0x10 ≡ ten → eqb b 0xfa ≡ fa → eqb b 0xfb ≡ fb → eqb b 0xfc ≡ fc → eqb b 0xfd ≡ fd → eqb b 0xfe ≡ fe → eqb b 0xff ≡ ff
        → Known b (cond ten Tag.Dummy (cond fa Tag.Pairs (cond fb Tag.Points (cond fc Tag.Name (cond fd Tag.Range (cond fe Tag.Text (cond ff Tag.Serial Tag.Raw)))))))
    go true fa fb fc fd fe ff e f g h d i j = e
    go false true fb fc fd fe ff e f g h d i j = f
    go false false true fc fd fe ff e f g h d i j = g
    go false false false true fd fe ff e f g h d i j = h
    go false false false false true fe ff e f g h d i j = d
    go false false false false false true ff e f g h d i j = (h, i)
    go false false false false false false true e f g h d i j = (h, i, j)
    go false false false false false false false e f g h d i j = tt

module _ (Still : Type 0) (σ : Structure) (F : ℕ → Type 0) (b0 b1 b2 b3 b4 b5 b6 b7 b8 b9 b10 b11 b12 b13 b14 b15 b16 b17 : ℕ) (rest : List ℕ) (at : ℕ) where
  abbrev pub slot : List ℕ
  slot = b0 ∷ b1 ∷ b2 ∷ b3 ∷ b4 ∷ b5 ∷ b6 ∷ b7 ∷ b8 ∷ b9 ∷ b10 ∷ b11 ∷ b12 ∷ b13 ∷ b14 ∷ b15 ∷ b16 ∷ b17 ∷ []

  -- ---- a slot without a clock, behind its tag and the byte after it

  abbrev here : ℕ
  here = at + 1 + 1 + 1 + 1 + 1

  -- the standard slot says y, the crate's x, which lists the same where Still holds
  abbrev pub Told : Said → slots.Said → List ℕ → ℕ → Type 0
  Told y x cs n = (judge y at ≡ Ok tt) × (Still → slots.lists x ≡ plain_from (lists y)) × (cs ≡ rest) × (n ≡ at + 18)

  -- fa
  six_along : (σ ≡ Structure.Below3 → codes_zero slot 5 6 ≡ false) → ((n : ℕ) → by_tag σ Tag.Pairs slot at ≡ refusal n → F n)
      → Along (Told (by_tag σ Tag.Pairs slot at)) F (slots.said_by Slot.Six) (drop 5 slot ++ rest) here
  six_along ratio refused =
      along_then _ F (pairs 6) _ (drop 5 slot ++ rest) here
      (along_map (PairsRead σ (slot ++ rest) 5 6 here) F _ (pairs 6) (drop 5 slot ++ rest) here
      (λ xs cs m r. rw r.1
      (closing_then F _ (λ _. done (slots.standards xs)) 0 b17 [] rest m refl (λ k. omega arith) (λ e. refused 4 (rw e)) (λ e. refused 5 (rw e))
      (λ k e q. (rw q, (λ _. rw q (ap (λ ys. plain ys [] [] []) r.0)), refl, omega (arith, e, r.2)))))
      (pairs_along σ (slot ++ rest) F 6 5 here (omega arith) ratio))

  -- fb
  white_along : Bytes slot → eqb b5 0 ≡ false → eqb b10 0 ≡ false → eqb b9 0xff ≡ false → eqb b14 0xff ≡ false
      → ((n : ℕ) → by_tag σ Tag.Points slot at ≡ refusal n → F n)
      → Along (Told (by_tag σ Tag.Points slot at)) F (crate.white >>= slots.said_by) (drop 5 slot ++ rest) here
  unfolding crate.white crate.points crate.second crate.point crate.point_of byte point_at
  white_along bytes first second given given' refused =
      let p = crate.point_of b5 b6 b7 b8 b9 in
      let q = crate.point_of b10 b11 b12 b13 b14 in
      let ps = of_point (point_of b5 b6 b7 b8 b9) in
      let qs = of_point (point_of b10 b11 b12 b13 b14) in
      let one = point_agrees b5 b6 b7 b8 b9 first given (bytes 9) in
      let two = point_agrees b10 b11 b12 b13 b14 second given' (bytes 14) in
      let both : p ∷ q ∷ [] ≡ map point_from (ps ++ qs) = (λ i. one i ++ two i) ∙ sym (map-append point_from ps qs) in
      rw (first, second, Along)
      (along_then _ F (crate.closing 1 >>= (λ _. done (Slot.White (Two p q)))) slots.said_by (drop 15 slot ++ rest) _
      (closing_then F _ (λ _. done (Slot.White (Two p q))) 1 b15 (b16 ∷ b17 ∷ []) rest _ refl (drop_bytes 16 slot bytes) (λ e. refused 4 (rw e)) (λ e. refused 5 (rw e))
      (λ k e q. (rw q, (λ _. rw q (ap (λ ws. plain [] [] ws []) both)), refl, omega (arith, e)))))

  -- fc, fe, ff
  string_along : (d : Span → Descriptor) → ((t : Span) → crate.string_of b3 t ≡ descriptor_from (d t))
      → (not (all_spaces (drop (text_length (drop 5 slot) + 1) (drop 5 slot))) ≡ true → F 5)
      → Along (Told (text_as d slot at)) F (crate.string b3 >>= slots.said_by) (drop 5 slot ++ rest) here
  unfolding crate.string
  string_along d same filled =
      along_then _ F (crate.string b3) slots.said_by (drop 5 slot ++ rest) here
      (along_then _ F text _ (drop 5 slot ++ rest) here
      (along_map (TextRead (drop 5 slot) rest here) F _ text (drop 5 slot ++ rest) here
      (λ t es n r.
      let start : here ≡ at + 5 = omega arith in
      let e : t ≡ text_in slot at = r.0 ∙ ap (λ (k : ℕ). record { start = k; len = text_length (drop 5 slot) }) start in
      (rw r.3, (λ _. rw r.3 (ap (λ u. plain [] [] [] (u ∷ [])) (same t ∙ ap (λ u. descriptor_from (d u)) e))), r.1, omega (arith, r.2)))
      (text_along F (drop 5 slot) rest here refl (λ e. filled (rw e)))))

  -- the others
  raw_along : Along (Told (by_tag σ Tag.Raw slot at)) F (crate.raw b3 >>= slots.said_by) (drop 5 slot ++ rest) here
  unfolding crate.raw crate.raw_of span skip byte
  raw_along =
      let start : here ≡ at + 5 = omega arith in (
        refl,
        (λ _. ap (λ (k : ℕ). plain [] [] [] (crate.raw_of b3 (record { start = k; len = 13 }) ∷ [])) start
            ∙ ap (λ u. plain [] [] [] (u ∷ [])) (through descriptor_from (ltb b3 0x10) refl refl)),
        refl,
        omega arith,
      )

  -- fd: what follows the kind
  abbrev there : ℕ
  there = here + 1 + 1 + 1 + 1 + 1 + 1

  abbrev second : SecondaryTiming
  second = secondary_of b10 b12 b13 b14 b15 b16 b17 (record { start = at + 11; len = 7 })

  abbrev SecondRead : CrateSecond → List ℕ → ℕ → Type 0
  SecondRead t es n = (range_refusal b10 b11 (all_spaces (drop 12 slot)) ≡ Ok tt) × (t ≡ second_from second) × (es ≡ rest) × (n ≡ at + 18)

  second_along : Bytes slot → (range_refusal b10 b11 (all_spaces (drop 12 slot)) ≡ Err 4 → F 4) → (range_refusal b10 b11 (all_spaces (drop 12 slot)) ≡ Err 5 → F 5)
      → Along SecondRead F (crate.secondary b10) (drop 11 slot ++ rest) there
  unfolding crate.secondary crate.none crate.gtf crate.gtf_of crate.other span skip byte word range_refusal secondary_of
  second_along bytes four five =
      along_if SecondRead F (eqb b10 0) crate.none _ (drop 11 slot ++ rest) there
      (λ e. closing_then F SecondRead (λ _. done CrateSecond.None) 3 b11 (drop 12 slot) rest there refl (drop_bytes 12 slot bytes) (λ h. four (rw (e, h))) (λ h. five (rw (e, h)))
      (λ m h q. (rw (e, q), rw e, refl, omega (arith, h))))
      (λ e. along_if SecondRead F (eqb b10 2) crate.gtf (crate.other b10) (drop 11 slot ++ rest) there
      (λ f. along_ensured SecondRead F (eqb b11 0) 4 _ (drop 12 slot ++ rest) (there + 1) (λ z. (rw (e, f, z), rw (e, f), refl, omega arith))
      (λ z. four (rw (e, f, z))))
      (λ f.
      let start : there ≡ at + 11 = omega arith in
      (rw (e, f), rw (e, f) (ap (λ (k : ℕ). CrateSecond.Other b10 (record { start = k; len = 7 })) start), refl, omega arith)))

  range_along : (Still → since4 σ ≡ true → (digits b4 0 2 < 2) × (digits b4 2 2 < 2)) → Bytes slot → ((n : ℕ) → by_tag σ Tag.Range slot at ≡ refusal n → F n)
      → Along (Told (by_tag σ Tag.Range slot at)) F (crate.range >>= slots.said_by) (drop 5 slot ++ rest) here
  unfolding crate.range crate.limits_of byte range_in
  range_along few bytes refused =
      along_then _ F (crate.secondary b10 >>= (λ t. done (Slot.Described (MonitorDescriptor.RangeLimits (crate.limits_of b5 b6 b7 b8 b9) t)))) slots.said_by (drop 11 slot ++ rest) there
      (along_then _ F (crate.secondary b10) _ (drop 11 slot ++ rest) there
      (along_map SecondRead F _ (crate.secondary b10) (drop 11 slot ++ rest) there
      (λ t es n r. (
        rw r.0,
        (λ q. rw r.0 (λ i. plain [] [] [] (MonitorDescriptor.RangeLimits (limits_agree σ b4 b5 b6 b7 b8 b9 (few q) i) (r.1 i) ∷ []))),
        r.2,
        r.3,
      ))
      (second_along bytes (λ e. refused 4 (rw e)) (λ e. refused 5 (rw e)))))

  -- ---- the slot

  by_tag_lem : Clean Still σ slot → eqb (b0 + 256 * b1) 0 ≡ true → (tag : Tag) → Known b3 tag → ((n : ℕ) → by_tag σ tag slot at ≡ refusal n → F n)
      → (other_fill slot ≡ true → F 5)
      → Along (Told (by_tag σ tag slot at)) F (crate.by_tag b3 tag >>= slots.said_by) (drop 5 slot ++ rest) here
  unfolding crate.string_of
  by_tag_lem c clock Tag.Dummy k refused filled = absurd (false≢true (sym c.dummy ∙ rw (clock, k)))
  by_tag_lem c clock Tag.Pairs k refused filled = six_along (λ e. rw (clock, k) at (c.ratio e)) refused
  by_tag_lem c clock Tag.Points k refused filled =
      let index = nor (eqb b5 0) (eqb b10 0) (rw (clock, k) at c.index) in
      let gamma = nor (eqb b9 0xff) (eqb b14 0xff) (rw (clock, k) at c.gamma) in
      white_along c.bytes index.0 index.1 gamma.0 gamma.1 refused
  by_tag_lem c clock Tag.Name k refused filled = string_along Descriptor.Name (λ t. rw k) (λ e. filled (rw (clock, k) e))
  by_tag_lem c clock Tag.Range k refused filled =
      range_along (λ q new.
      let none = nor (leb 2 (digits b4 0 2)) (leb 2 (digits b4 2 2)) (rw (clock, k) at (c.still q new)) in
      (leb-false 2 (digits b4 0 2) none.0, leb-false 2 (digits b4 2 2) none.1)) c.bytes refused
  by_tag_lem c clock Tag.Text k refused filled = string_along Descriptor.Text (λ t. rw (k.0, k.1)) (λ e. filled (rw (clock, k.0, k.1) e))
  by_tag_lem c clock Tag.Serial k refused filled = string_along Descriptor.Serial (λ t. rw (k.0, k.1)) (λ e. filled (rw (clock, k.0, k.1, k.2) e))
  by_tag_lem c clock Tag.Raw k refused filled = raw_along

  -- a timing, whichever slot holds it
  some_said : (i : ℕ) (t : CrateTiming) → said_at i (Some t) ≡ done (slots.timing t)
  some_said zero t = refl
  some_said (suc i) t = refl

  -- without a clock a later slot says what its tag names
  later_said : (i : ℕ) → eqb (b0 + 256 * b1) 0 ≡ true → said σ (suc i) slot at ≡ by_tag σ (tag_of b3) slot at
  unfolding said
  later_said i clock =
      ap (λ (t : Bool). cond t (cond (eqb (suc i) 0) (refusal 3) (by_tag σ (tag_of b3) slot at)) (of_timed (timing_in slot))) clock
      ∙ ap (λ (t : Bool). cond t (refusal 3) (by_tag σ (tag_of b3) slot at)) (ne_eqb (suc i) 0 (λ e. omega arith))

  -- a slot i without a clock, and one with a clock
  clockless_along : (i : ℕ) → Clean Still σ slot → eqb (b0 + 256 * b1) 0 ≡ true → ((n : ℕ) → said σ i slot at ≡ refusal n → F n) → (other_fill slot ≡ true → F 5)
      → Along (Told (said σ i slot at)) F (detailed >>= said_at i) (slot ++ rest) at
  unfolding detailed byte word said crate.descriptor crate.tagged
  clockless_along zero c clock refused filled = rw (clock, Along) (refused 3 (rw clock))
  clockless_along (suc i) c clock refused filled =
      let e = later_said i clock in
      subst (λ y. Along (Told y) F (detailed >>= said_at (suc i)) (slot ++ rest) at) (sym e)
      (rw (clock, Along) (by_tag_lem c clock (tag_of b3) (known b3) (λ n q. refused n (e ∙ q)) filled))

  clocked_along : (i : ℕ) → Clean Still σ slot → eqb (b0 + 256 * b1) 0 ≡ false → ((n : ℕ) → said σ i slot at ≡ refusal n → F n)
      → Along (Told (said σ i slot at)) F (detailed >>= said_at i) (slot ++ rest) at
  unfolding said
  clocked_along i c clock refused =
      along_then _ F detailed (said_at i) (slot ++ rest) at
      (along_map (TimingRead F b0 b1 b2 b3 b4 b5 b6 b7 b8 b9 b10 b11 b12 b13 b14 b15 b16 b17 rest at) F _ detailed (slot ++ rest) at
      (λ m cs n r. rw (r.2, some_said i (timing_from r.0)) (rw (clock, r.1), (λ _. rw (clock, r.1)), r.3, r.4))
      (timing_along F b0 b1 b2 b3 b4 b5 b6 b7 b8 b9 b10 b11 b12 b13 b14 b15 b16 b17 rest at clock (rw clock at c.active) (λ e. refused 6 (rw (clock, e)))))

  pub slot_along : (i : ℕ) → Clean Still σ slot → ((n : ℕ) → said σ i slot at ≡ refusal n → F n) → (other_fill slot ≡ true → F 5)
      → Along (Told (said σ i slot at)) F (detailed >>= said_at i) (slot ++ rest) at
  slot_along i c refused filled = go (eqb (b0 + 256 * b1) 0) refl
    where
      go : (t : Bool) → eqb (b0 + 256 * b1) 0 ≡ t → Along (Told (said σ i slot at)) F (detailed >>= said_at i) (slot ++ rest) at
      go true e = clockless_along i c e refused filled
      go false e = clocked_along i c e refused
