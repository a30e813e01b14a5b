-- Where the spans of a slot lie, of every answer that it may give.
use Prim.Native.Nat.{ℕ, ◌+◌, ◌≤◌, ◌<◌}
use Rattle.std.specs.Prelude.{◌≡◌, List, map, eqb, ltb, length}
use Rattle.std.proofs.Common.{sym, ◌∙◌, arith, length-take, length-drop, get_or-take, get_or-drop}
use Rattle.bits.specs.Bytes.{◌!◌, part}
use Rattle.steps.specs.Spans.{Text}
use Rattle.standard_record.specs.Held.{held}
use Rattle.standard_record.specs.declared.SecondaryTiming.{SecondaryTiming}
use Rattle.standard_parts.specs.Descriptors.{secondary_of}
use Rattle.standard_parts.specs.declared.Structure.{Structure}
use Rattle.standard_parts.specs.TextEnds.{text_ends}
use Rattle.standard_slots.specs.Said.{lists, text_in, range_in, raw_of, said}
use Rattle.standard_slots.specs.Each.{either, each}
use Rattle.standard_slots.specs.Spans.{SoundSecond, Sound, Sounds}

-- ---- of a slot whose 18 bytes stand in the block from `at` on, and before n

module _ (s : List ℕ) (at n : ℕ) (room : at + 18 ≤ n) (whole : at + 18 ≤ length s) where
  -- its 13 bytes of text, in the block
  text_size : length (part (part s at 18) 5 13) ≡ 13
  text_size = simp (length-take, length-drop) (omega arith)

  text_at : (i : ℕ) → i < 13 → part (part s at 18) 5 13 ! i ≡ s ! (at + 5 + i)
  text_at i h =
      let k : 5 + i < 18 = omega arith in
      let z : at + (5 + i) ≡ at + 5 + i = omega arith in
      rw (get_or-take, get_or-drop, get_or-take, get_or-drop, z)

  sound_text : Text s (text_in (part s at 18) at) n
  sound_text =
      let q = text_ends (part (part s at 18) 5 13) in
      let size = text_size in
      record {
        inside = omega (arith, q.short);
        short = omega (arith, q.short);
        clean = λ i h e. q.clean i h (text_at i (omega (arith, q.short)) ∙ e);
        behind = λ h. (omega arith, sym (text_at _ h) ∙ q.behind (omega arith));
      }

  sound_range : (σ : Structure) → Sound s (range_in σ (part s at 18) at) n
  unfolding range_in secondary_of
  sound_range σ =
      let kind : ℕ = part s at 18 ! 10 in
      let holds : SecondaryTiming → Type 0 = λ x. SoundSecond x n in
      either holds (eqb kind 0) tt (either holds (eqb kind 2) tt (omega arith))

  sound_raw : Sound s (raw_of (part s at 18 ! 3) (record { start = at + 5; len = 13 })) n
  sound_raw = either (λ d. Sound s d n) (ltb (part s at 18 ! 3) 0x10) (omega arith) (omega arith)

  pub sound_slot : (σ : Structure) (k i : ℕ) → Sounds s (map (held.wrap k) (lists (said σ i (part s at 18) at)).descriptors) n
  sound_slot σ k =
      each (λ x. Sounds s (map (held.wrap k) (lists x).descriptors) n) σ (part s at 18) at (record {
        refused = λ r h l. tt;
        none = tt;
        timed = λ d. tt;
        listed = tt;
        pointed = tt;
        name = (sound_text, tt);
        text = (sound_text, tt);
        serial = (sound_text, tt);
        range = (sound_range σ, tt);
        raw = (sound_raw, tt);
      })
