-- What the lines of the slots say in a panel's text: each entry, from the words of its line. The slot's number stands last in each.
use Rattle.std.specs.Prelude.{ℕ, Bool, true, false, cond, Option, Some, None, List, eqb, replicate}
use Rattle.page.specs.Words.{text}
use Rattle.timing.specs.Axis.{pixels, lines}
use Rattle.timing.specs.Rest.{polarity_of}
use Rattle.timing.specs.declared.StereoType.{StereoType}
use Rattle.timing.specs.declared.StereoType.TheVariants as Stereo
use Rattle.steps.specs.declared.Span.{Span}
use Rattle.text_words.specs.Words.{◌word◌}
use Rattle.text_kinds.specs.Kinds.{text_of, run_of}
use Rattle.text_kinds.specs.Answers.{kept_of}
use Rattle.text_kinds.specs.declared.Kept.{Kept}
use Rattle.standard_record.specs.declared.HeldPoint.{HeldPoint}
use Rattle.standard_record.specs.declared.HeldPair.{HeldPair}
use Rattle.standard_record.specs.declared.SyncLine.{SyncLine}
use Rattle.standard_record.specs.declared.SyncLine.TheVariants.{Green, RGB}
use Rattle.standard_record.specs.declared.Sync.{Sync}
use Rattle.standard_record.specs.declared.Sync.TheVariants.{AnalogComposite, BipolarAnalogComposite, DigitalComposite, DigitalSeparate}
use Rattle.standard_record.specs.declared.DetailedTiming.{DetailedTiming}
use Rattle.standard_record.specs.declared.HeldTiming.{HeldTiming}
use Rattle.standard_record.specs.declared.Limits.{Limits}
use Rattle.standard_record.specs.declared.SecondaryTiming.TheVariants as Secondary
use Rattle.standard_record.specs.declared.Descriptor.{Descriptor}
use Rattle.standard_record.specs.declared.Descriptor.TheVariants.{Serial, Text, Range, Name, Undefined, MakerDefined}
use Rattle.standard_record.specs.declared.Held.{Held}
use Rattle.panel_front.specs.Front.{byte_at, half_at, word_at, flag_at, is_at, gamma_at, place_at}

-- ---- white points and standard timings

unfoldable pub point_of : List ℕ → HeldPoint
point_of l = record { point = record { index = byte_at l 1; place = place_at l 2 3; gamma = gamma_at l 4 }; slot = half_at l 5 }

unfoldable pub pair_of : List ℕ → HeldPair
pair_of l = record {
  pair = record { width = half_at l 1; ratio = record { width = half_at l 2; height = half_at l 3 }; rate = half_at l 4 };
  slot = half_at l 5;
}

-- ---- detailed timings

-- by its number, in the source's order
unfoldable pub stereo_by : ℕ → StereoType
stereo_by n =
    cond (eqb n 0) Stereo.None
    (cond (eqb n 1) Stereo.SequentialRightSync
    (cond (eqb n 2) Stereo.SequentialLeftSync
    (cond (eqb n 3) Stereo.InterleavedLinesRightEven
    (cond (eqb n 4) Stereo.InterleavedLinesLeftEven
    (cond (eqb n 5) Stereo.Interleaved4Way
    Stereo.SideBySide)))))

abbrev pub line_by : Bool → SyncLine
line_by true = RGB
line_by false = Green

-- by the number of its kind, and two flags
unfoldable pub sync_by : ℕ → Bool → Bool → Sync
sync_by n a b =
    cond (eqb n 0) (AnalogComposite a (line_by b))
    (cond (eqb n 1) (BipolarAnalogComposite a (line_by b))
    (cond (eqb n 2) (DigitalComposite a (polarity_of b))
    (DigitalSeparate (polarity_of a) (polarity_of b))))

unfoldable pub timing_of : List ℕ → DetailedTiming
timing_of l = record {
  clock = word_at l 1;
  across = record { active = pixels (half_at l 2); front = pixels (half_at l 4); sync = pixels (half_at l 6); back = pixels (half_at l 8) };
  down = record { active = lines (half_at l 3); front = lines (half_at l 5); sync = lines (half_at l 7); back = lines (half_at l 9) };
  size = record { width = half_at l 10; height = half_at l 11 };
  border = record { across = pixels (half_at l 12); down = lines (half_at l 13) };
  interlaced = flag_at l 14;
  stereo = stereo_by (byte_at l 15);
  sync = sync_by (byte_at l 16) (flag_at l 17) (flag_at l 18);
}

unfoldable pub held_timing_of : List ℕ → HeldTiming
held_timing_of l = record { timing = timing_of l; slot = half_at l 19 }

-- ---- descriptors: their bytes are kept from a place on, at most thirteen

-- of a text, or of a run, which stands behind a tag or a kind
unfoldable pub kept_in : List ℕ → Option Kept
kept_in l =
    cond (is_at l 0 (text "undefined")) (kept_of (run_of (l word 2)))
    (cond (is_at l 0 (text "maker")) (kept_of (run_of (l word 2)))
    (cond (is_at l 6 (text "other")) (kept_of (run_of (l word 8)))
    (kept_of (text_of (l word 1)))))

-- how many there are
abbrev pub kept_length : Option Kept → ℕ
kept_length None = 0
kept_length (Some kept) = kept.len

-- in their thirteen places
abbrev pub kept_places : Option Kept → List ℕ
kept_places None = replicate 13 0
kept_places (Some kept) = kept.bytes

unfoldable pub span_of : List ℕ → ℕ → Span
span_of l at = record { start = at; len = kept_length (kept_in l) }

unfoldable pub limits_of : List ℕ → Limits
limits_of l = record { vmin = half_at l 1; vmax = half_at l 2; hmin = word_at l 3; hmax = word_at l 4; clock = word_at l 5 }

-- with the slot that stands at k
abbrev pub entry_at : List ℕ → ℕ → Descriptor → Held
entry_at l k d = record { descriptor = d; slot = half_at l k }

unfoldable pub range_of : List ℕ → Span → Held
range_of l t =
    cond (is_at l 6 (text "none")) (entry_at l 7 (Range (limits_of l) Secondary.None))
    (cond (is_at l 6 (text "gtf")) (entry_at l 12 (Range (limits_of l) (Secondary.GTF (word_at l 7) (byte_at l 8) (half_at l 9) (byte_at l 10) (byte_at l 11))))
    (entry_at l 9 (Range (limits_of l) (Secondary.Other (byte_at l 7) t))))

unfoldable pub held_by : List ℕ → Span → Held
held_by l t =
    cond (is_at l 0 (text "serial")) (entry_at l 2 (Serial t))
    (cond (is_at l 0 (text "text")) (entry_at l 2 (Text t))
    (cond (is_at l 0 (text "name")) (entry_at l 2 (Name t))
    (cond (is_at l 0 (text "undefined")) (entry_at l 3 (Undefined (byte_at l 1) t))
    (cond (is_at l 0 (text "maker")) (entry_at l 3 (MakerDefined (byte_at l 1) t))
    (range_of l t)))))

unfoldable pub held_of : List ℕ → ℕ → Held
held_of l at = held_by l (span_of l at)
