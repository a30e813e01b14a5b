-- Laws: what the bytes of a slot are that shows a descriptor.
use Rattle.std.specs.Prelude.{ℕ, ◌<◌, ◌≡◌, Bool, true, false, cond, ltb, length, drop}
use Rattle.std.proofs.Math.Path.{refl}
use Rattle.std.proofs.Common.{ap, subst, arith, length-take, length-drop, take-take}
use mathlib.Core.List.{List, [], ◌∷◌, nil≢cons, head-eq_of_cons-eq}
use Rattle.bits.specs.Bytes.{◌!◌, part}
use Rattle.tags.specs.Tags.{tag_of}
use Rattle.tags.specs.declared.Tag.{Tag}
use Rattle.standard_record.specs.declared.Descriptor.{Descriptor}
use Rattle.standard_parts.specs.Text.{text_length, is_padded}
use Rattle.standard_parts.specs.TextEnds.{text_ends}
use Rattle.standard_parts.specs.declared.Structure.{Structure}
use Rattle.standard_slots.specs.Said.{text_in, range_in, raw_of, said}
use Rattle.write_leaf.specs.Bytes.{Bytes}
use Rattle.write_leaf.specs.Every.{at}
use Rattle.write_parts.specs.Text.{ReadsText}
use Rattle.write_slots.specs.Words.{Words, serial, text, range, name, undefined, maker_defined, bytes_of, words, entries, Shows, refused, these, shows}
use Rattle.write_slots.specs.Cases.{told}
use Rattle.write_slots.specs.Tests.{middle}

abbrev is_raw : Tag → Bool
is_raw Tag.Raw = true
is_raw Tag.Dummy = false
is_raw Tag.Pairs = false
is_raw Tag.Points = false
is_raw Tag.Name = false
is_raw Tag.Range = false
is_raw Tag.Text = false
is_raw Tag.Serial = false

raw_middle : (n : ℕ) → n < 256 → tag_of n ≡ Tag.Raw → ltb n 0x10 ≡ false → middle n ≡ true
unfolding tag_of
raw_middle n h p q = rw (p, q) at (at (λ k. cond (is_raw (tag_of k)) (cond (ltb k 0x10) true (middle k)) true) 256 refl n h)

abbrev pub Tells : Structure → List ℕ → Words → Type 0
Tells σ t (serial u) = ReadsText (part t 5 13) u
Tells σ t (text u) = ReadsText (part t 5 13) u
Tells σ t (range l s) = words t (range_in σ t 0) ≡ range l s
Tells σ t (name u) = ReadsText (part t 5 13) u
Tells σ t (undefined tag u) = (middle tag ≡ true) × (part t 5 13 ≡ u)
Tells σ t (maker_defined tag u) = (ltb tag 0x10 ≡ true) × (part t 5 13 ≡ u)

abbrev words_of : Shows → List Words
words_of refused = []
words_of (these l) = l.descriptors

module _ (t : List ℕ) (size : length t ≡ 18) (b : Bytes t) where
  pub part_size : length (part t 5 13) ≡ 13
  part_size = simp (length-take, length-drop) (omega arith)

  text_told : is_padded (part t 5 13) (text_length (part t 5 13)) ≡ true → ReadsText (part t 5 13) (bytes_of t (text_in t 0))
  text_told p = record {
    size = part_size;
    padded = p;
    is = take-take (text_length (part t 5 13)) 13 (drop 5 t) (omega (arith, (text_ends (part t 5 13)).short, part_size));
  }

  range_told : (σ : Structure) → Tells σ t (words t (range_in σ t 0))
  unfolding range_in
  range_told σ = refl

  raw_told : (σ : Structure) → tag_of (t ! 3) ≡ Tag.Raw → Tells σ t (words t (raw_of (t ! 3) (record { start = 5; len = 13 })))
  raw_told σ p = go (ltb (t ! 3) 0x10) refl
    where
      go : (z : Bool) → ltb (t ! 3) 0x10 ≡ z
          → Tells σ t (words t (cond z (Descriptor.MakerDefined (t ! 3) (record { start = 5; len = 13 })) (Descriptor.Undefined (t ! 3) (record { start = 5; len = 13 }))))
      go true e = (e, refl)
      go false e = (raw_middle (t ! 3) (b 3) p e, refl)

  pub tells : (σ : Structure) (w : Words) → shows t (said σ 1 t 0) ≡ these (entries [] [] [] (w ∷ [])) → Tells σ t w
  tells σ w h =
      told (λ x. words_of (shows t x) ≡ w ∷ [] → Tells σ t w) σ t 0 (record {
        refused = λ n e. absurd (nil≢cons e);
        none = λ e. absurd (nil≢cons e);
        timed = λ d l p e. absurd (nil≢cons e);
        listed = λ e. absurd (nil≢cons e);
        pointed = λ e. absurd (nil≢cons e);
        name = λ p e. subst (Tells σ t) (head-eq_of_cons-eq e) (text_told p);
        text = λ p e. subst (Tells σ t) (head-eq_of_cons-eq e) (text_told p);
        serial = λ p e. subst (Tells σ t) (head-eq_of_cons-eq e) (text_told p);
        range = λ e. subst (Tells σ t) (head-eq_of_cons-eq e) (range_told σ);
        raw = λ p e. subst (Tells σ t) (head-eq_of_cons-eq e) (raw_told σ p);
      }) 1 (ap words_of h)
