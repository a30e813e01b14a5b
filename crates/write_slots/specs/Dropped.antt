-- Laws: what the reading drops of a slot, or does not tell from another, is fixed.
use Rattle.std.specs.Prelude.{ℕ, ◌+◌, ◌/◌, ◌<◌, ◌≡◌, refl, List, [], ◌∷◌, length, replicate}
use Rattle.std.proofs.Common.{◌∙◌, arith, get_or-append-add}
use Rattle.bits.specs.Bytes.{◌!◌, part}
use Rattle.standard_record.specs.declared.Limits.{Limits}
use Rattle.standard_record.specs.declared.StandardTiming.{StandardTiming}
use Rattle.standard_record.specs.declared.WhitePoint.{WhitePoint}
use Rattle.write_parts.specs.Point.{point_bytes}
use Rattle.write_parts.specs.Text.{text_bytes}
use Rattle.write_parts.specs.Texts.{padding}
use Rattle.write_slots.specs.Words.{Words, Secondary, serial, text, range, name, undefined, maker_defined}
use Rattle.write_slots.specs.Slot.{tagged, offsets_byte, slot_bytes}
use Rattle.write_slots.specs.Limits.{code_under}

-- what stands behind the tag: the offsets of range limits, and nothing else
abbrev pub behind_tag : List StandardTiming → List WhitePoint → List Words → ℕ
behind_tag [] [] (range l s ∷ ds) = offsets_byte l
behind_tag [] [] (serial t ∷ ds) = 0
behind_tag [] [] (text t ∷ ds) = 0
behind_tag [] [] (name t ∷ ds) = 0
behind_tag [] [] (undefined tag t ∷ ds) = 0
behind_tag [] [] (maker_defined tag t ∷ ds) = 0
behind_tag [] [] [] = 0
behind_tag [] (w ∷ ws) ds = 0
behind_tag (p ∷ ps) ws ds = 0

-- around the tag of a slot that holds no timing
pub beside_tag : (ps : List StandardTiming) (ws : List WhitePoint) (ds : List Words) → (slot_bytes [] ps ws ds ! 2 ≡ 0) × (slot_bytes [] ps ws ds ! 4 ≡ behind_tag ps ws ds)
unfolding slot_bytes
beside_tag (p ∷ ps) ws ds = (refl, refl)
beside_tag [] (w ∷ ws) ds = (refl, refl)
beside_tag [] [] (serial t ∷ ds) = (refl, refl)
beside_tag [] [] (text t ∷ ds) = (refl, refl)
beside_tag [] [] (range l s ∷ ds) = (refl, refl)
beside_tag [] [] (name t ∷ ds) = (refl, refl)
beside_tag [] [] (undefined tag t ∷ ds) = (refl, refl)
beside_tag [] [] (maker_defined tag t ∷ ds) = (refl, refl)
beside_tag [] [] [] = (refl, refl)

-- the upper four digits of the byte of the offsets
pub offset_digits : (l : Limits) (s : Secondary) (ds : List Words) → slot_bytes [] [] [] (range l s ∷ ds) ! 4 < 16
unfolding slot_bytes
offset_digits l s ds = omega (arith, code_under l.vmin l.vmax, code_under (l.hmin / 1000) (l.hmax / 1000))

-- a slot without entries, whole
pub unused_slot : slot_bytes [] [] [] [] ≡ tagged 0x10 (replicate 13 0)
unfolding slot_bytes
unused_slot = refl

-- the upper four digits of the second byte of each white point
pub point_digits : (w : WhitePoint) (ws : List WhitePoint) (ds : List Words) → (slot_bytes [] [] (w ∷ ws) ds ! 6 < 16) × (slot_bytes [] [] (w ∷ ws) ds ! 11 < 16)
unfolding slot_bytes point_bytes
point_digits w [] ds = omega arith
point_digits w (v ∷ ws) ds = omega arith

-- the second white point where there is one only
pub unused_point : (w : WhitePoint) (ds : List Words) → part (slot_bytes [] [] (w ∷ []) ds) 10 5 ≡ replicate 5 0
unfolding slot_bytes point_bytes
unused_point w ds = refl

-- ---- the padding of a text

-- the text of a serial number, a text or a name
pub data HasText : Words → List ℕ → Type 0 where
  of_serial : {t : List ℕ} → HasText (serial t) t
  of_text_lem : {t : List ℕ} → HasText (text t) t
  of_name : {t : List ℕ} → HasText (name t) t

-- byte k of the 13, behind the 0x0a
pub padded : {w : Words} {t : List ℕ} → HasText w t → (ds : List Words) (k : ℕ) → length t < k → k < 13 → slot_bytes [] [] [] (w ∷ ds) ! (5 + k) ≡ 0x20
unfolding slot_bytes
padded {t = t} of_serial ds k h l = get_or-append-add (0 ∷ 0 ∷ 0 ∷ 0xff ∷ 0 ∷ []) (text_bytes t) k 0 ∙ padding 13 t k h l
padded {t = t} of_text_lem ds k h l = get_or-append-add (0 ∷ 0 ∷ 0 ∷ 0xfe ∷ 0 ∷ []) (text_bytes t) k 0 ∙ padding 13 t k h l
padded {t = t} of_name ds k h l = get_or-append-add (0 ∷ 0 ∷ 0 ∷ 0xfc ∷ 0 ∷ []) (text_bytes t) k 0 ∙ padding 13 t k h l
