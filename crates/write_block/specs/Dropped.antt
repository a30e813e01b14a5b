-- What the reading drops, or does not tell from another, is fixed in a canonical block, whatever it is the block of.
use Rattle.std.specs.Prelude.{ℕ, ◌+◌, ◌*◌, ◌%◌, ◌<◌, ◌≡◌, refl, Bool, List, [], ◌∷◌, length, replicate}
use Rattle.std.proofs.Common.{sym, subst, arith, take_at}
use Rattle.bits.specs.Bytes.{◌!◌, part}
use Rattle.bits.specs.Fields.{digits}
use Rattle.fixed.specs.Numbered.{numbered}
use Rattle.timing.specs.declared.StereoType.TheVariants as Stereo
use Rattle.standard_record.specs.Seen.{seen}
use Rattle.standard_record.specs.Held.{held_point, held_pair, held_timing}
use Rattle.standard_record.specs.declared.StandardRecord.{StandardRecord}
use Rattle.standard_record.specs.declared.Limits.{Limits}
use Rattle.standard_record.specs.declared.DetailedTiming.{DetailedTiming}
use Rattle.standard_record.specs.declared.StandardTiming.{StandardTiming}
use Rattle.standard_record.specs.declared.WhitePoint.{WhitePoint}
use Rattle.standard_record.specs.declared.VideoInput.TheVariants.{Digital}
use Rattle.standard_record.specs.declared.ImageSize.TheVariants as Image
use Rattle.standard_reading.specs.Slots.{start}
use Rattle.write_leaf.specs.Bytes.{digit}
use Rattle.write_timing.specs.Dropped.{no_stereo}
use Rattle.write_pairs.specs.Pairs.{pairs_bytes}
use Rattle.write_slots.specs.Words.{Words, Secondary, range}
use Rattle.write_slots.specs.Slot.{tagged, slot_bytes}
use Rattle.write_slots.specs.Dropped.{behind_tag, beside_tag, offset_digits, unused_slot, point_digits, unused_point, HasText, padded}
use Rattle.write_head.specs.Front.{front_bytes}
use Rattle.write_head.specs.Dropped.{before_letters, no_letters, digital_input, no_size, even_ratio, behind_flags}
use Rattle.write_block.specs.Shown.{Shown, shown, worded}
use Rattle.write_block.specs.Canonical.{eight_of, body, block_of}
use Rattle.write_block.specs.Gives.{Written}
use Rattle.write_block.specs.Leaves.{pairs_length}
use Rattle.write_block.specs.Every.{canonical_pairs, canonical_slot, slot_byte}
use Rattle.write_block.specs.Promises.{written_gives}

-- what stands in slot i, counted from 0: its number is i + 1
module _ (x : Shown) (i : ℕ) where
  abbrev pub timings_in : List DetailedTiming
  timings_in = numbered held_timing (i + 1) x.detailed

  abbrev pub pairs_in : List StandardTiming
  pairs_in = numbered held_pair (i + 1) x.standard

  abbrev pub points_in : List WhitePoint
  points_in = numbered held_point (i + 1) x.points

  abbrev pub words_in : List Words
  words_in = numbered worded (i + 1) x.descriptors

-- of the block b that shows x
pub record Dropped (x : Shown) (b : List ℕ) : Type 0 where
  pub before_maker : b ! 8 < 128
  pub first_letter : x.front.product.maker.0 ≡ 0 → digits (b ! 9 + 256 * b ! 8) 10 5 ≡ 0
  pub second_letter : x.front.product.maker.1 ≡ 0 → digits (b ! 9 + 256 * b ! 8) 5 5 ≡ 0
  pub third_letter : x.front.product.maker.2 ≡ 0 → digits (b ! 9 + 256 * b ! 8) 0 5 ≡ 0
  pub input : (dfp : Bool) → x.front.display.input ≡ Digital dfp → b ! 20 ≡ 128 + digit dfp
  pub size : x.front.display.size ≡ Image.None → (b ! 21 ≡ 0) × (b ! 22 ≡ 0)
  pub ratio : x.front.display.size ≡ Image.Ratio (record { width = 100; height = 100 }) → (b ! 21 ≡ 1) × (b ! 22 ≡ 0)
  pub flags : b ! 37 % 128 ≡ 0
  -- pairs stand at the front, and 01 01 behind them
  pub eight : part b 38 16 ≡ pairs_bytes 8 (eight_of x)
  pub six : (i : ℕ) → i < 4 → timings_in x i ≡ [] → (p : StandardTiming) (ps : List StandardTiming) → pairs_in x i ≡ p ∷ ps
      → part (part b (start i) 18) 5 12 ≡ pairs_bytes 6 (p ∷ ps)
  pub stereo : (i : ℕ) → i < 4 → (d : DetailedTiming) (ts : List DetailedTiming) → timings_in x i ≡ d ∷ ts → d.stereo ≡ Stereo.None → b ! (start i + 17) % 2 ≡ 0
  pub tags : (i : ℕ) → i < 4 → timings_in x i ≡ [] → (b ! (start i + 2) ≡ 0) × (b ! (start i + 4) ≡ behind_tag (pairs_in x i) (points_in x i) (words_in x i))
  pub offsets : (i : ℕ) → i < 4 → timings_in x i ≡ [] → pairs_in x i ≡ [] → points_in x i ≡ [] → (l : Limits) (s : Secondary) (ds : List Words) → words_in x i ≡ range l s ∷ ds
      → b ! (start i + 4) < 16
  pub points : (i : ℕ) → i < 4 → timings_in x i ≡ [] → pairs_in x i ≡ [] → (w : WhitePoint) (ws : List WhitePoint) → points_in x i ≡ w ∷ ws
      → (b ! (start i + 6) < 16) × (b ! (start i + 11) < 16)
  -- one point alone: bytes 10 to 14 of the slot
  pub point : (i : ℕ) → i < 4 → timings_in x i ≡ [] → pairs_in x i ≡ [] → (w : WhitePoint) → points_in x i ≡ w ∷ [] → part (part b (start i) 18) 10 5 ≡ replicate 5 0
  -- byte k of a text's 13, behind its 0x0a
  pub padding : (i : ℕ) → i < 4 → timings_in x i ≡ [] → pairs_in x i ≡ [] → points_in x i ≡ [] → (w : Words) (ds : List Words) → words_in x i ≡ w ∷ ds
      → (t : List ℕ) → HasText w t → (k : ℕ) → length t < k → k < 13 → b ! (start i + (5 + k)) ≡ 0x20
  -- no entries
  pub unused : (i : ℕ) → i < 4 → timings_in x i ≡ [] → pairs_in x i ≡ [] → points_in x i ≡ [] → words_in x i ≡ [] → part b (start i) 18 ≡ tagged 0x10 (replicate 13 0)

slot_stereo : (d : DetailedTiming) (ts : List DetailedTiming) (ps : List StandardTiming) (ws : List WhitePoint) (ds : List Words)
    → d.stereo ≡ Stereo.None → slot_bytes (d ∷ ts) ps ws ds ! 17 % 2 ≡ 0
unfolding slot_bytes
slot_stereo d ts ps ws ds = no_stereo d

slot_six : (p : StandardTiming) (ps : List StandardTiming) (ws : List WhitePoint) (ds : List Words)
    → part (slot_bytes [] (p ∷ ps) ws ds) 5 12 ≡ pairs_bytes 6 (p ∷ ps)
unfolding slot_bytes
slot_six p ps ws ds = take_at (pairs_bytes 6 (p ∷ ps)) (0x0a ∷ []) 12 (pairs_length 6 (p ∷ ps))

pub dropped : (x : Shown) → Dropped x (block_of x)
unfolding body front_bytes
dropped x = record {
  before_maker = omega (arith, before_letters x.front);
  first_letter = (no_letters x.front).0;
  second_letter = (no_letters x.front).1;
  third_letter = (no_letters x.front).2;
  input = digital_input x.front;
  size = no_size x.front;
  ratio = even_ratio x.front;
  flags = behind_flags x.front;
  eight = canonical_pairs x;
  six = λ i h e p ps q. rw (canonical_slot x i h, e, q) (slot_six p ps _ _);
  stereo = λ i h d ts e s. rw (slot_byte x i h 17 (omega arith), e) (slot_stereo d ts _ _ _ s);
  tags = λ i h e. rw (slot_byte x i h 2 (omega arith), slot_byte x i h 4 (omega arith), e) (beside_tag _ _ _);
  offsets = λ i h e p q l s ds f. rw (slot_byte x i h 4 (omega arith), e, p, q, f) (offset_digits l s ds);
  points = λ i h e p w ws q. rw (slot_byte x i h 6 (omega arith), slot_byte x i h 11 (omega arith), e, p, q) (point_digits w ws _);
  point = λ i h e p w q. rw (canonical_slot x i h, e, p, q) (unused_point w _);
  padding = λ i h e p q w ds f t g k l m. rw (slot_byte x i h (5 + k) (omega arith), e, p, q, f) (padded g ds k l m);
  unused = λ i h e p q f. rw (canonical_slot x i h, e, p, q, f) unused_slot;
}

-- so it is in every block that is written
pub written_drops : {r : StandardRecord} {lent before after : List ℕ} → Written r lent before 0 after → Dropped (shown lent (seen r)) after
written_drops {r} {lent} w = subst (Dropped (shown lent (seen r))) (sym (written_gives w refl).is) (dropped (shown lent (seen r)))
