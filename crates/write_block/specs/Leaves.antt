-- A slot of each kind is written where its leaf is.
use Rattle.std.specs.Prelude.{ℕ, zero, suc, ◌+◌, ◌*◌, ◌≤◌, ◌≡◌, refl, Bool, take}
use Rattle.std.proofs.Math.Path.{ap}
use Rattle.std.proofs.Common.{◌∙◌, arith, length-append, get_or-append-add}
use mathlib.Core.List.{List, [], ◌∷◌, ◌++◌}
use Rattle.std.proofs.Math.ListN.{length}
use Rattle.std.proofs.lemmas.List.{get_or_at}
use Rattle.bits.specs.Bytes.{◌!◌}
use Rattle.standard_record.specs.declared.DetailedTiming.{DetailedTiming}
use Rattle.standard_record.specs.declared.StandardTiming.{StandardTiming}
use Rattle.standard_record.specs.declared.Descriptor.{Descriptor}
use Rattle.standard_parts.specs.declared.Structure.{Structure}
use Rattle.standard_slots.specs.Said.{four, pairs_at, said}
use Rattle.standard_slots.specs.Answers.{of_points}
use Rattle.standard_slots.specs.declared.Points.{Points}
use Rattle.write_timing.specs.Timing.{timing_bytes, WritesTiming}
use Rattle.write_parts.specs.Pair.{pair_low, pair_high}
use Rattle.write_pairs.specs.Pairs.{pairs_bytes, All, Back, WritesPairs}
use Rattle.write_pairs.specs.Laws.{pairs_back, all_read}
use Rattle.write_slots.specs.Words.{these, entries, shows}
use Rattle.write_slots.specs.Slot.{tagged, slot_bytes}
use Rattle.write_slots.specs.Writes.{WritesPoints, WritesDescriptor}
use Rattle.write_slots.specs.Laws.{timing_shown, shown_timing, pairs_shown, shown_pairs}
use Rattle.write_block.specs.Holds.{WritesSlot}
use Rattle.write_block.specs.Turns.{gather_same}

-- ---- the bytes of pairs

pub pairs_length : (n : ℕ) (ps : List StandardTiming) → length (pairs_bytes n ps) ≡ 2 * n
pairs_length zero ps = omega arith
pairs_length (suc n) [] = omega (arith, pairs_length n [])
pairs_length (suc n) (p ∷ ps) = omega (arith, pairs_length n ps)

-- pairs further on
pub pairs_behind : (σ : Structure) (a s : List ℕ) (n : ℕ) → pairs_at σ (a ++ s) (length a) n ≡ pairs_at σ s 0 n
pairs_behind σ a s n = gather_same _ _ n (λ i l.
    let e : length a + 2 * i + 1 ≡ length a + (2 * i + 1) = omega arith in
    let z : 0 + 2 * i ≡ 2 * i = omega arith in
    rw (e, get_or-append-add a s (2 * i) 0, get_or-append-add a s (2 * i + 1) 0, z))

-- six pairs stand at the front of eight
take_pairs : (n m : ℕ) (ps : List StandardTiming) → take (2 * n) (pairs_bytes (n + m) ps) ≡ pairs_bytes n ps
take_pairs zero m ps = refl
take_pairs (suc n) m [] =
    let e : 2 * suc n ≡ suc (suc (2 * n)) = omega arith in
    let f : suc n + m ≡ suc (n + m) = omega arith in
    rw (e, f) (ap (λ l. 1 ∷ 1 ∷ l) (take_pairs n m []))
take_pairs (suc n) m (p ∷ ps) =
    let e : 2 * suc n ≡ suc (suc (2 * n)) = omega arith in
    let f : suc n + m ≡ suc (n + m) = omega arith in
    rw (e, f) (ap (λ l. pair_low p ∷ pair_high p ∷ l) (take_pairs n m ps))

-- ---- the kinds

module _ (σ : Structure) (lent : List ℕ) (fits : Bool) (t : List ℕ) where
  pub slot_timing : (d : DetailedTiming) → WritesTiming d fits t → WritesSlot σ lent (four (d ∷ []) [] [] []) fits t
  unfolding slot_bytes timing_bytes
  slot_timing d w = record {
    made = w.made;
    sound = λ e. record { inside = tt; reads = record { size = ap length w.made; shown = timing_shown σ 1 t d (w.sound e).clock (w.sound e).is } };
    complete = λ s b h.
        let r = shown_timing σ 1 s d [] [] [] [] h.reads.shown in
        w.complete s b (record { clock = r.0; is = r.1 });
  }

  pub slot_points : (ps : Points) → WritesPoints σ ps fits t → WritesSlot σ lent (four [] [] (of_points ps) []) fits t
  slot_points ps w = record {
    made = w.made;
    sound = λ e. record { inside = tt; reads = w.sound e };
    complete = λ s b h. w.complete s b h.reads;
  }

  pub slot_descriptor : (d : Descriptor) → WritesDescriptor σ lent d fits t → WritesSlot σ lent (four [] [] [] (d ∷ [])) fits t
  unfolding slot_bytes
  slot_descriptor d w = record {
    made = w.made;
    sound = λ e. record { inside = ((w.sound e).0, tt); reads = (w.sound e).1 };
    complete = λ s b h. w.complete s b (h.inside.0, h.reads);
  }

-- the 18 bytes of some pairs
abbrev pub pairs_slot : List ℕ → List ℕ
pairs_slot twelve = tagged 0xfa (twelve ++ 0x0a ∷ [])

module _ (p : StandardTiming) (ps : List StandardTiming) (few : length (p ∷ ps) ≤ 6) where
  abbrev slot : List ℕ
  slot = pairs_slot (pairs_bytes 6 (p ∷ ps))

  pub slot_size : length slot ≡ 18
  slot_size = omega (arith, length-append (pairs_bytes 6 (p ∷ ps)) (0x0a ∷ []), pairs_length 6 (p ∷ ps))

  slot_end : slot ! 17 ≡ 0x0a
  slot_end = get_or_at (tagged 0xfa (pairs_bytes 6 (p ∷ ps))) 0x0a [] 0 17 (omega (arith, pairs_length 6 (p ∷ ps)))

  pub slot_shows : (σ : Structure) → All (Back σ) (p ∷ ps) → shows slot (said σ 1 slot 0) ≡ these (entries [] (p ∷ ps) [] [])
  slot_shows σ h =
      pairs_shown σ slot refl refl slot_end
      ∙ ap (λ l. these (entries [] l [] []))
      (pairs_behind σ (0 ∷ 0 ∷ 0 ∷ 0xfa ∷ 0 ∷ []) (pairs_bytes 6 (p ∷ ps) ++ 0x0a ∷ []) 6 ∙ pairs_back σ 6 (p ∷ ps) (0x0a ∷ []) few h)

  pub slot_pairs : (σ : Structure) (lent : List ℕ) (fits : Bool) (bytes : List ℕ) (many : ℕ) → WritesPairs σ (p ∷ ps) fits bytes many
      → WritesSlot σ lent (four [] (p ∷ ps) [] []) fits (pairs_slot (take 12 bytes))
  unfolding slot_bytes
  slot_pairs σ lent fits bytes many w =
      let made = ap pairs_slot (ap (take 12) w.made ∙ take_pairs 6 2 (p ∷ ps)) in
      record {
        made = made;
        sound = λ e. rw made (record { inside = tt; reads = record { size = slot_size; shown = slot_shows σ (w.sound e) } });
        complete = λ s b h. w.complete (rw (shown_pairs σ 1 s p ps [] [] [] h.reads.shown) at (all_read σ s b 5 6));
      }
