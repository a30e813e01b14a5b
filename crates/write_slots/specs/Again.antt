-- Laws: a slot of white points or of a descriptor that any bytes are read as, is read from its own bytes.
use Rattle.std.specs.Prelude.{ℕ, zero, suc, ◌/◌, ◌<◌, ◌≡◌, Bool, true, false, eqb, leb, drop, replicate}
use Rattle.std.proofs.Math.Path.{subst}
use mathlib.Core.List.{List, [], ◌∷◌, ◌++◌}
use Rattle.std.proofs.Common.{arith, leb-true, ltb-true}
use Rattle.bits.specs.Bytes.{◌!◌, part}
use Rattle.fixed.specs.Fixed.{pad}
use Rattle.standard_record.specs.declared.WhitePoint.{WhitePoint}
use Rattle.standard_record.specs.declared.Limits.{Limits}
use Rattle.standard_record.specs.declared.Descriptor.{Descriptor}
use Rattle.standard_parts.specs.Descriptors.{offsets_of, limits_of, secondary_of}
use Rattle.standard_parts.specs.declared.Structure.{Structure}
use Rattle.standard_slots.specs.Said.{range_in}
use Rattle.standard_slots.specs.Answers.{of_points}
use Rattle.standard_slots.specs.declared.Points.{Points}
use Rattle.write_leaf.specs.Bytes.{Bytes}
use Rattle.write_leaf.specs.Digits.{two_hold}
use Rattle.write_leaf.specs.Leaf.{Again}
use Rattle.write_leaf.specs.Again.{again, cons_bytes, each_byte, append_bytes, each_before, drop_bytes, part_bytes}
use Rattle.write_parts.specs.Point.{point_bytes}
use Rattle.write_parts.specs.Text.{text_bytes, ReadsText}
use Rattle.write_parts.specs.Points.{point_written}
use Rattle.write_parts.specs.Texts as Texts
use Rattle.write_parts.specs.Again.{point_again, text_again}
use Rattle.write_pairs.specs.Pairs.{All}
use Rattle.write_slots.specs.Words.{Words, serial, text, range, name, undefined, maker_defined, bytes_of, words}
use Rattle.write_slots.specs.Slot.{headed, tagged, points_bytes, offsets_byte, limits_bytes, secondary_bytes, descriptor_bytes, slot_bytes}
use Rattle.write_slots.specs.Writes.{ReadsPoints, WritesPoints, ReadsDescriptor, WritesDescriptor}
use Rattle.write_slots.specs.Runs.{pad_bytes}
use Rattle.write_slots.specs.Tells.{Tells, tells}
use Rattle.write_slots.specs.Points.{ReadIn, points_read, writes_none, writes_one, writes_two}
use Rattle.write_slots.specs.Descriptors.{writes_span, writes_serial, writes_text, writes_name, writes_undefined, writes_maker}
use Rattle.write_slots.specs.Limits.{code_under}
use Rattle.write_slots.specs.Ranges.{second, writes_range}

-- ---- bytes behind a tag

headed_bytes : (tag b4 : ℕ) (rest : List ℕ) → tag < 256 → b4 < 256 → Bytes rest → Bytes (headed tag b4 rest)
headed_bytes tag b4 rest h l k = each_before (headed tag b4 []) rest (omega arith) k

tagged_bytes : (tag : ℕ) (rest : List ℕ) → tag < 256 → Bytes rest → Bytes (tagged tag rest)
tagged_bytes tag rest h k = headed_bytes tag 0 rest h (omega arith) k

-- ---- white points

module _ (t : List ℕ) (b : Bytes t) where
  points_bytes_lem : (n : ℕ) (ws : List WhitePoint) → All (ReadIn t) ws → Bytes (points_bytes n ws)
  points_bytes_lem zero ws h = λ i. omega arith
  points_bytes_lem (suc n) [] h = each_before (replicate 5 0) (points_bytes n []) (omega arith) (points_bytes_lem n [] h)
  points_bytes_lem (suc n) (w ∷ ws) h =
      let k = h.0.0 in
      append_bytes (point_bytes w) (points_bytes n ws) (point_again w (drop k t) (drop_bytes k t b) h.0.1).bytes (points_bytes_lem n ws h.1)

  slot_bytes_lem : (ws : List WhitePoint) → All (ReadIn t) ws → Bytes (slot_bytes [] [] ws [])
  unfolding slot_bytes
  slot_bytes_lem [] h = each_byte (slot_bytes [] [] [] []) (omega arith)
  slot_bytes_lem (w ∷ ws) h =
      tagged_bytes 0xfb (points_bytes 2 (w ∷ ws) ++ 0x0a ∷ 0x20 ∷ 0x20 ∷ []) (omega arith)
      (append_bytes (points_bytes 2 (w ∷ ws)) (0x0a ∷ 0x20 ∷ 0x20 ∷ []) (points_bytes_lem 2 (w ∷ ws) h) (each_byte (0x0a ∷ 0x20 ∷ 0x20 ∷ []) (omega arith)))

points_written : (σ : Structure) (ps : Points) → (f : Bool) × (m : List ℕ) × WritesPoints σ ps f m
points_written σ Points.None = (_, _, writes_none σ)
points_written σ (Points.One p) = (_, _, writes_one p _ _ (point_written p) σ)
points_written σ (Points.Two p q) = (_, _, writes_two p q _ _ _ _ (point_written p) (point_written q) σ)

pub points_again : (σ : Structure) (ps : Points) (t : List ℕ) → Bytes t → ReadsPoints σ t ps
    → Again Bytes (ReadsPoints σ) (λ ps. slot_bytes [] [] (of_points ps) []) ps
points_again σ ps t b r = again (points_written σ ps).2 t b r (slot_bytes_lem t b (of_points ps) (points_read σ t (of_points ps) r.shown))

-- ---- descriptors

offsets_are_byte : (l : Limits) → offsets_byte l < 256
offsets_are_byte l = omega (arith, code_under l.vmin l.vmax, code_under (l.hmin / 1000) (l.hmax / 1000))

module _ (t : List ℕ) (b : Bytes t) where
  -- of a secondary timing, by the two tests of its kind
  abbrev seconds : Bool → Bool → List ℕ
  seconds z y = secondary_bytes (second t (t ! 10) (t ! 12) (t ! 13) (t ! 14) (t ! 15) (t ! 16) (t ! 17) z y)

  second_bytes : (z y : Bool) → Bytes (seconds z y)
  second_bytes true y = each_byte (seconds true y) (omega arith)
  second_bytes false true = each_byte (seconds false true) (omega (arith, b 13, b 16, b 17))
  second_bytes false false = cons_bytes (t ! 10) (pad 7 0 (part t 11 7)) (b 10) (pad_bytes 7 (part t 11 7) (part_bytes t 11 7 b))

  range_bytes : (σ : Structure) (w : Words) → words t (range_in σ t 0) ≡ w → Bytes (descriptor_bytes w)
  unfolding range_in secondary_of
  range_bytes σ w e =
      let l = limits_of (offsets_of σ (t ! 4)) (t ! 5) (t ! 6) (t ! 7) (t ! 8) (t ! 9) in
      let second = seconds (eqb (t ! 10) 0) (eqb (t ! 10) 2) in
      subst (λ w. Bytes (descriptor_bytes w)) e
      (headed_bytes 0xfd (offsets_byte l) (limits_bytes l ++ second) (omega arith) (offsets_are_byte l)
      (each_before (limits_bytes l) second (omega arith) (second_bytes (eqb (t ! 10) 0) (eqb (t ! 10) 2))))

  worded_bytes : (tag : ℕ) (u : List ℕ) → tag < 256 → ReadsText (part t 5 13) u → Bytes (tagged tag (text_bytes u))
  worded_bytes tag u h r = tagged_bytes tag (text_bytes u) h (text_again u (part t 5 13) (part_bytes t 5 13 b) r).bytes

  run_bytes : (tag : ℕ) (u : List ℕ) → tag < 256 → part t 5 13 ≡ u → Bytes (tagged tag (pad 13 0 u))
  run_bytes tag u h e = tagged_bytes tag (pad 13 0 u) h (pad_bytes 13 u (rw (← e) (part_bytes t 5 13 b)))

  words_bytes : (σ : Structure) (w : Words) → Tells σ t w → Bytes (descriptor_bytes w)
  words_bytes σ (serial u) r = worded_bytes 0xff u (omega arith) r
  words_bytes σ (text u) r = worded_bytes 0xfe u (omega arith) r
  words_bytes σ (range l s) r = range_bytes σ (range l s) r
  words_bytes σ (name u) r = worded_bytes 0xfc u (omega arith) r
  words_bytes σ (undefined tag u) r =
      run_bytes tag u (omega (arith, leb-true tag 0xf9 (two_hold (leb 0x11 tag) (leb tag 0xf9) r.0).1)) r.1
  words_bytes σ (maker_defined tag u) r = run_bytes tag u (omega (arith, ltb-true tag 0x10 r.0)) r.1

module _ (σ : Structure) (lent : List ℕ) where
  descriptor_written : (d : Descriptor) → (f : Bool) × (m : List ℕ) × WritesDescriptor σ lent d f m
  descriptor_written (Descriptor.Serial s) = (_, _, writes_serial σ lent s _ _ (writes_span lent s _ _ (Texts.writes_text (bytes_of lent s))))
  descriptor_written (Descriptor.Text s) = (_, _, writes_text σ lent s _ _ (writes_span lent s _ _ (Texts.writes_text (bytes_of lent s))))
  descriptor_written (Descriptor.Range l s) = (_, _, writes_range σ lent l s)
  descriptor_written (Descriptor.Name s) = (_, _, writes_name σ lent s _ _ (writes_span lent s _ _ (Texts.writes_text (bytes_of lent s))))
  descriptor_written (Descriptor.Undefined tag s) = (_, _, writes_undefined σ lent tag s)
  descriptor_written (Descriptor.MakerDefined tag s) = (_, _, writes_maker σ lent tag s)

pub descriptor_again : (σ : Structure) (lent : List ℕ) (d : Descriptor) (t : List ℕ) → Bytes t → ReadsDescriptor σ lent t d
    → Again Bytes (ReadsDescriptor σ lent) (λ d. descriptor_bytes (words lent d)) d
descriptor_again σ lent d t b r =
    again (descriptor_written σ lent d).2 t b r (words_bytes t b σ (words lent d) (tells t r.1.size b σ (words lent d) r.1.shown))
