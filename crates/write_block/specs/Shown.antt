-- What a record shows: each list up to its length, and the bytes of each span in the span's place.
use Rattle.std.specs.Prelude.{ℕ, refl, List, map}
use Rattle.fixed.specs.Numbered.{Wrapper}
use Rattle.standard_record.specs.Seen.{Seen}
use Rattle.standard_record.specs.declared.HeldPoint.{HeldPoint}
use Rattle.standard_record.specs.declared.HeldPair.{HeldPair}
use Rattle.standard_record.specs.declared.HeldTiming.{HeldTiming}
use Rattle.standard_record.specs.declared.Held.{Held}
use Rattle.write_slots.specs.Words.{Words, words}
use Rattle.write_head.specs.Front.{Front}

pub record Shown : Type 0 where
  pub front : Front
  pub points : List HeldPoint
  pub standard : List HeldPair
  pub detailed : List HeldTiming
  pub descriptors : List (ℕ × Words)
  pub extensions : ℕ

-- a descriptor's words, beside the number of its slot
abbrev pub worded : Wrapper Words (ℕ × Words)
worded = record {
  wrap = λ n w. (n, w);
  number = λ h. h.0;
  entry = λ h. h.1;
  number_is = λ n w. refl;
  entry_is = λ n w. refl;
  whole = λ h. refl;
}

abbrev pub held_words : List ℕ → Held → ℕ × Words
held_words s h = (h.slot, words s h.descriptor)

abbrev pub front_of : Seen → Front
front_of x = record { product = x.product; version = x.version; display = x.display; basic = x.basic; established = x.established }

-- the spans of x point into s
abbrev pub shown : List ℕ → Seen → Shown
shown s x = record {
  front = front_of x;
  points = x.points;
  standard = x.standard;
  detailed = x.detailed;
  descriptors = map (held_words s) x.descriptors;
  extensions = x.extensions;
}
