-- Of every canonical block, whether it gives the record or not: its length, its eight pairs, and its slots.
use Rattle.std.specs.Prelude.{ℕ, zero, suc, ◌+◌, ◌*◌, ◌<◌, ◌≡◌, refl, Bool, true, false, eqb, length, take, drop}
use Rattle.std.proofs.Common.{sym, ap, ◌∙◌, mul_comm, arith, length-append, drop_at, take_at, get_or-take, get_or-drop, eqb-true}
use mathlib.Core.List.{List, [], ◌∷◌, ◌++◌, append_assoc}
use Rattle.std.proofs.Math.Seq.{drop-append-add}
use Rattle.std.proofs.lemmas.Bool.{eqb-false}
use Rattle.bits.specs.Bytes.{◌!◌, part}
use Rattle.fixed.specs.Gather.{gather}
use Rattle.sums.specs.Joined.{checksum}
use Rattle.standard_record.specs.declared.DetailedTiming.{DetailedTiming}
use Rattle.standard_record.specs.declared.StandardTiming.{StandardTiming}
use Rattle.standard_record.specs.declared.WhitePoint.{WhitePoint}
use Rattle.standard_reading.specs.Slots.{start}
use Rattle.write_timing.specs.Timing.{timing_bytes}
use Rattle.write_parts.specs.Point.{point_bytes}
use Rattle.write_parts.specs.Texts.{filled_length}
use Rattle.write_pairs.specs.Pairs.{pairs_bytes}
use Rattle.write_slots.specs.Words.{none, gtf, other, Words, serial, text, range, name, undefined, maker_defined}
use Rattle.write_slots.specs.Slot.{slot_bytes}
use Rattle.write_slots.specs.Runs.{pad_size}
use Rattle.write_head.specs.Front.{Front, front_bytes}
use Rattle.write_block.specs.Shown.{Shown}
use Rattle.write_block.specs.Canonical.{eight_of, slot_of, body, block_of}
use Rattle.write_block.specs.Leaves.{pairs_length}

-- parts of k bytes each, one after the other
pub gather_length : (f : ℕ → List ℕ) (k n : ℕ) → ((i : ℕ) → i < n → length (f i) ≡ k) → length (gather f n) ≡ n * k
gather_length f k zero h = omega arith
gather_length f k (suc n) h = omega (arith, length-append (gather f n) (f n), gather_length f k n (λ i l. h i (omega arith)), h n (omega arith))

part_of_gather : (f : ℕ → List ℕ) (k n i : ℕ) → ((i : ℕ) → i < n → length (f i) ≡ k) → i < n → (s : List ℕ) → part (gather f n ++ s) (k * i) k ≡ f i
part_of_gather f k zero i h l s = absurd (omega arith)
part_of_gather f k (suc n) i h l s =
    ap (λ b. part b (k * i) k) (append_assoc (gather f n) (f n) s) ∙ go (eqb i n) refl (λ m. part_of_gather f k n i (λ j z. h j (omega arith)) m (f n ++ s))
  where
    go : (z : Bool) → eqb i n ≡ z → (i < n → part (gather f n ++ (f n ++ s)) (k * i) k ≡ f i) → part (gather f n ++ (f n ++ s)) (k * i) k ≡ f i
    go true p before =
        rw (
          eqb-true i n p,
          drop_at (gather f n) (f n ++ s) (k * n) (gather_length f k n (λ j z. h j (omega arith)) ∙ mul_comm n k),
          take_at (f n) s k (h n (omega arith)),
        )
    go false p before = before (omega (arith, eqb-false i n p))

-- every slot has 18 bytes
slot_18 : (ts : List DetailedTiming) (ps : List StandardTiming) (ws : List WhitePoint) (ds : List Words) → length (slot_bytes ts ps ws ds) ≡ 18
unfolding slot_bytes timing_bytes point_bytes
slot_18 (d ∷ ts) ps ws ds = refl
slot_18 [] (p ∷ ps) ws ds = omega (arith, length-append (pairs_bytes 6 (p ∷ ps)) (0x0a ∷ []), pairs_length 6 (p ∷ ps))
slot_18 [] [] (w ∷ []) ds = refl
slot_18 [] [] (w ∷ v ∷ ws) ds = refl
slot_18 [] [] [] (serial t ∷ ds) = omega (arith, filled_length 13 t)
slot_18 [] [] [] (text t ∷ ds) = omega (arith, filled_length 13 t)
slot_18 [] [] [] (range l none ∷ ds) = refl
slot_18 [] [] [] (range l (gtf st c m k j) ∷ ds) = refl
slot_18 [] [] [] (range l (other kind run) ∷ ds) = omega (arith, pad_size 7 run)
slot_18 [] [] [] (name t ∷ ds) = omega (arith, filled_length 13 t)
slot_18 [] [] [] (undefined tag t ∷ ds) = omega (arith, pad_size 13 t)
slot_18 [] [] [] (maker_defined tag t ∷ ds) = omega (arith, pad_size 13 t)
slot_18 [] [] [] [] = refl

front_38 : (f : Front) → length (front_bytes f) ≡ 38
unfolding front_bytes
front_38 f = refl

module _ (x : Shown) where
  abbrev slots : ℕ → List ℕ
  slots i = slot_of x (i + 1)

  abbrev before : List ℕ
  before = front_bytes x.front ++ pairs_bytes 8 (eight_of x)

  before_54 : length before ≡ 54
  before_54 = omega (arith, length-append (front_bytes x.front) (pairs_bytes 8 (eight_of x)), front_38 x.front, pairs_length 8 (eight_of x))

  -- the body, with anything behind it
  body_is : (t : List ℕ) → body x ++ t ≡ before ++ (gather slots 4 ++ (x.extensions ∷ t))
  unfolding body
  body_is t = simp append_assoc

  body_slot : (t : List ℕ) (i : ℕ) → i < 4 → part (body x ++ t) (start i) 18 ≡ slot_of x (i + 1)
  body_slot t i h =
      let rest : List ℕ = gather slots 4 ++ (x.extensions ∷ t) in
      ap (λ s. part s (start i) 18) (body_is t)
      ∙ ap (take 18) (ap (λ n. drop (n + 18 * i) (before ++ rest)) (sym before_54) ∙ drop-append-add before rest (18 * i))
      ∙ part_of_gather slots 18 4 i (λ j l. slot_18 _ _ _ _) h (x.extensions ∷ t)

  body_size : (t : List ℕ) → length (body x ++ t) ≡ 127 + length t
  body_size t =
      ap length (body_is t)
      ∙ omega (arith, length-append before (gather slots 4 ++ (x.extensions ∷ t)), length-append (gather slots 4) (x.extensions ∷ t), before_54, gather_length slots 18 4 (λ j l. slot_18 _ _ _ _))

  -- slot i of every canonical block is the canonical slot numbered i + 1
  pub canonical_slot : (i : ℕ) → i < 4 → part (block_of x) (start i) 18 ≡ slot_of x (i + 1)
  canonical_slot = body_slot _

  -- the 16 bytes before the slots
  pub canonical_pairs : part (block_of x) 38 16 ≡ pairs_bytes 8 (eight_of x)
  canonical_pairs =
      let rest : List ℕ = gather slots 4 ++ (x.extensions ∷ checksum (body x) ∷ []) in
      ap (λ s. part s 38 16) (body_is _ ∙ append_assoc (front_bytes x.front) (pairs_bytes 8 (eight_of x)) rest)
      ∙ ap (take 16) (drop_at (front_bytes x.front) (pairs_bytes 8 (eight_of x) ++ rest) 38 (front_38 x.front))
      ∙ take_at (pairs_bytes 8 (eight_of x)) rest 16 (pairs_length 8 (eight_of x))

  -- every canonical block has 128 bytes
  pub block_size : length (block_of x) ≡ 128
  block_size = body_size _

  -- a byte of a slot, in the block
  pub slot_byte : (i : ℕ) → i < 4 → (k : ℕ) → k < 18 → block_of x ! (start i + k) ≡ slot_of x (i + 1) ! k
  slot_byte i h k l =
      sym (get_or-drop (start i) (block_of x) k 0) ∙ sym (get_or-take 18 (drop (start i) (block_of x)) k 0 l) ∙ ap (λ t. t ! k) (canonical_slot i h)
