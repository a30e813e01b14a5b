-- Worked lines: antt computes each definition to the text.
use mathlib.Core.List.{[], ◌∷◌, flat_map}
use Rattle.std.specs.Prelude.{◌≡◌, refl}
use Rattle.page.specs.Words.{text, decimal_in, field, field32, field16, field8, flag, hex_digit, hex_of2, flat, each}
use Rattle.shared_lines.specs.Lines.{axes, border_to_stereo, polarity, refuse_line}
use Rattle.timing.specs.Axis.{back_porch, across_of, down_of}
use Rattle.standard_timing.specs.Timing.{timing_in}
use Rattle.standard_slot_lines.specs.Lines.{sync, timing_fields}
use Rattle.cta_reading.specs.Cta.{blocks_in, timings_in, before_blocks, cta_of}
use Rattle.cta_reading.specs.Cases.{begins, extension, bytes}
use Rattle.cta_lines.specs.Lines.{head_line, video_line, run_field, block_line, block_lines, timing_line, timing_lines, record_lines, judged_lines, listing_of}

head : head_line 3 36 0x71 ≡ text "cta 3 36 113\n"
unfolding head_line flat field8 decimal_in
head = refl

video : video_line (record { items = 16 ∷ 0x84 ∷ 3 ∷ []; len = 2 }) ≡ text "video 16 132\n"
unfolding video_line each flat field8 decimal_in
video = refl

no_video : video_line (record { items = 16 ∷ []; len = 0 }) ≡ text "video\n"
unfolding video_line each flat
no_video = refl

block : block_line (0x23 ∷ 0x09 ∷ 0x7f ∷ []) (record { tag = 1; run = record { start = 1; len = 2 } }) ≡ text "block 1 097f\n"
unfolding block_line run_field each flat field8 decimal_in hex_of2 hex_digit
block = refl

empty : block_line (0xe0 ∷ []) (record { tag = 7; run = record { start = 1; len = 0 } }) ≡ text "block 7\n"
unfolding block_line run_field flat field8 decimal_in
empty = refl

-- an extension with two video codes, a vendor's block of two bytes, an empty block and a timing
whole : listing_of (extension 12 (0x42 ∷ 0x90 ∷ 4 ∷ 0x62 ∷ 0x03 ∷ 0x0c ∷ 0xe0 ∷ 0x80 ∷ bytes 40))
    ≡ text "accept\ncta 3 12 113\nvideo 144 4\nblock 3 030c\nblock 7\nblock 4\ndetailed 40000000 800 600 40 1 128 4 88 23 320 180 0 0 0 0 3 1 1\n"
unfolding listing_of record_lines judged_lines head_line video_line block_lines block_line run_field timing_lines timing_line timing_fields axes border_to_stereo sync polarity flat each flag field32 field16 field8 decimal_in hex_of2 hex_digit begins bytes flat_map blocks_in timings_in before_blocks cta_of timing_in across_of down_of back_porch
whole = refl

refused : listing_of [] ≡ text "refuse 7 0\n"
unfolding listing_of cta_of before_blocks judged_lines refuse_line flat field field8 decimal_in
refused = refl
