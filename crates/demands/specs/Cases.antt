-- Worked cases of the two definitions, as entries of one list under one claim. antt computes each.
use Rattle.std.specs.Prelude.{ℕ, ◌≡◌, refl, true, false, List, [], ◌∷◌, ◌++◌, take, drop, set}
use Rattle.std.specs.Float.Ieee.{of_bits, of_int, add, div}
use Rattle.timing.specs.Axis.{back_porch, across_of, down_of}
use Rattle.steps.specs.Steps.{Outcome, got, refused}
use Rattle.steps.specs.Leaves.{byte, word, long}
use Rattle.crate_record.specs.Single.{f0, f1}
use Rattle.crate_record.specs.declared.EDID.{EDID}
use Rattle.crate_record.specs.declared.WhitePoint.{WhitePoint}
use Rattle.crate_head.specs.Head.{header, maker, date, product, version, input_of, input, size_of, gamma_from, dpms_of, dpms, display, color, front}
use Rattle.crate_timings.specs.Established.{flags_of as flags_by, established}
use Rattle.crate_timings.specs.Pairs.{standard_timing_of, pair_of, pair, pairs}
use Rattle.crate_text.specs.Text.{scan, padding, skip, span, text}
use Rattle.crate_detailed.specs.Detailed.{sync_of, fitted, axes, timing_of, timed, detailed}
use Rattle.crate_descriptors.specs.Descriptors.{spaces, closing, point_of, point, ended, second, points, white, string_of, string, raw_of, raw, tagged, descriptor}
use Rattle.crate_slots.specs.Slots.{later, slots}
use Rattle.crate_reading.specs.Reading.{parts, plain, reading, answer}
use Rattle.tags.specs.Tags.{tag_of}
use Rattle.standard_record.specs.Filler.{blank}
use Rattle.standard_record.specs.declared.Week.TheVariants.{Made, ModelYear}
use Rattle.standard_record.specs.declared.Depth.TheVariants as Depth
use Rattle.standard_record.specs.declared.VideoInput.TheVariants.{Digital, Interface}
use Rattle.standard_record.specs.declared.ImageSize.TheVariants as Size
use Rattle.standard_record.specs.declared.DisplayType.TheVariants.{Monochrome, OtherColor, Undefined}
use Rattle.standard_record.specs.declared.Kind.TheVariants.{Typed, Encodings}
use Rattle.standard_record.specs.declared.StandardReading.{StandardReading}
use Rattle.standard_timing.specs.Timing.{timing_in}
use Rattle.standard_parts.specs.Head.{input_of as input_by, image_of, gamma_of, features_of}
use Rattle.standard_parts.specs.Color.{point_of as point_by}
use Rattle.standard_parts.specs.Timings.{flags_of, pair_of as pair_by}
use Rattle.standard_parts.specs.Descriptors.{limits_of, secondary_of, closing_refusal, range_refusal}
use Rattle.standard_head.specs.Head.{product_in, colors_in}
use Rattle.standard_verdict.specs.Verdict.{before_slots}
use Rattle.standard_slots.specs.Said.{point_at, range_in, said}
use Rattle.standard_reading.specs.Slots.{judged}
use Rattle.standard_reading.specs.Block.{record_of, standard_of}
use Rattle.demands.specs.Specimen.{specimen, lobby, mode, specimen_of, specimen_with, named}
use Rattle.demands.specs.Panels.{full_block, range_block, two_timings, ratio_block, head_block, fd_slot, limits_block, blank_beside, told, specimen_size, shape, analog, old, new, showing, specimen_shows, full_shows, range_shows, two_show, ratio_shows, head_shows, rates, limits_show}

-- a block, and what one of the two readings makes of it
pub data Case : Type 0 where
  crate_reads : List ℕ → Outcome EDID → Case
  standard_reads : List ℕ → StandardReading → Case

abbrev pub Holds : Case → Type 0
Holds (crate_reads s o) = answer s ≡ o
Holds (standard_reads s r) = standard_of s ≡ r

abbrev pub Hold : List Case → Type 0
Hold [] = Unit {0}
Hold (c ∷ cs) = Holds c × Hold cs

-- the specimen with other bytes in place of those from `at` to `end`
abbrev with : List ℕ → ℕ → ℕ → List ℕ
with new at end = take at specimen ++ new ++ drop end specimen

-- the specimen with these three slots behind its first
abbrev pub laid : List ℕ → List ℕ → List ℕ → List ℕ
laid a b c = with (a ++ b ++ c) 72 126

-- a slot of tag 10
abbrev pub tag_10 : List ℕ
tag_10 = 0 ∷ 0 ∷ 0 ∷ 0x10 ∷ 0 ∷ []

-- one of tag fb: five bytes of a point with i for its index, five with j, which are no point where i is 0, and `gap` before 0a 20 20
abbrev pub tag_fb : ℕ → ℕ → List ℕ → List ℕ
tag_fb i j gap = (0 ∷ 0 ∷ 0 ∷ 0xfb ∷ 0 ∷ i ∷ 0 ∷ 0 ∷ 0 ∷ 0 ∷ j ∷ 0 ∷ 0 ∷ 0 ∷ 0 ∷ []) ++ gap ++ (0x0a ∷ 0x20 ∷ 0x20 ∷ [])

-- with indexes 1 and 0: 23 bytes
abbrev pub long_fb : List ℕ
long_fb = tag_fb 1 0 (0 ∷ 0 ∷ 0 ∷ 0 ∷ 0 ∷ [])

-- the block of the fewest bytes, three later slots of 5; and that of the most, three of 23
pub shortest : List ℕ
shortest = laid tag_10 tag_10 tag_10

unfoldable pub longest : List ℕ
longest = laid long_fb long_fb long_fb

-- the six points of the longest
pub six : List WhitePoint
six =
    let p : ℕ → WhitePoint = λ index. record { index = index; x = f0; y = f0; gamma = f1 } in
    p 1 ∷ p 0 ∷ p 1 ∷ p 0 ∷ p 1 ∷ p 0 ∷ []

-- ranges with the codes 0, 1 and 2 on both axes; with 3, with 2 and 3, and with 3 and 2
abbrev low_limits : ℕ → ℕ → List ℕ
low_limits revision sum = limits_block revision (fd_slot 0x00 255 255 255 255) (fd_slot 0x05 255 255 1 255) (fd_slot 0x0a 255 1 255 1) sum

abbrev high_limits : ℕ → ℕ → List ℕ
high_limits revision sum = limits_block revision (fd_slot 0x0f 1 255 255 255) (fd_slot 0x0e 0 0 0 0) (fd_slot 0xfb 0 0 0 0) sum

unfoldable pub cases : List Case
cases =
    crate_reads shortest (got (specimen_with (lobby 40 88) [] []) 88) ∷
    crate_reads longest (got (specimen_with (lobby 40 88) six []) 142) ∷
    crate_reads [] (refused 1 0) ∷
    crate_reads (0x01 ∷ 0xff ∷ 0xff ∷ []) (refused 1 3) ∷
    crate_reads (0x01 ∷ 0xff ∷ 0xff ∷ 0xff ∷ []) (refused 2 4) ∷
    crate_reads specimen (got (specimen_with (lobby 40 88) [] named) 127) ∷
    crate_reads (take 127 specimen) (got (specimen_with (lobby 40 88) [] named) 127) ∷
    crate_reads (take 126 specimen) (refused 1 126) ∷
    crate_reads (set specimen 56 0) (refused 3 57) ∷
    crate_reads (set specimen 62 0x80) (got (specimen_with (lobby 128 0) [] named) 127) ∷
    crate_reads (set specimen 62 0x81) (refused 6 66) ∷
    crate_reads (set specimen 83 0x21) (refused 5 84) ∷
    crate_reads (with (0x00 ∷ 0x00 ∷ 0x00 ∷ 0x00 ∷ 0x00 ∷ 0x00 ∷ 0x00 ∷ []) 83 90) (refused 5 84) ∷
    crate_reads (with (tag_fb 1 0 []) 72 90) (refused 4 93) ∷
    crate_reads (ratio_block 2 0xc3) (got (specimen_of 2 (mode 1280 0x3fcc_cccd ∷ mode 1920 0x3fcc_cccd ∷ []) (lobby 40 88) [] (drop 1 named)) 127) ∷
    standard_reads specimen (specimen_shows 800) ∷
    standard_reads (take 127 specimen) (blank_beside 7 0) ∷
    standard_reads (set specimen 127 0xc4) (blank_beside 8 127) ∷
    standard_reads (set (set specimen 56 0) 127 0xe3) (specimen_shows 768) ∷
    standard_reads (set (set specimen 0 0x01) 127 0xc2) (blank_beside 2 0) ∷
    standard_reads (set (set specimen 18 0x02) 127 0xc2) (blank_beside 9 18) ∷
    standard_reads (set (set (set specimen 54 0) 55 0) 127 0x72) (blank_beside 3 54) ∷
    standard_reads (set (set specimen 75 0xfa) 127 0xc5) (blank_beside 4 72) ∷
    standard_reads (set (set specimen 83 0x21) 127 0xc2) (blank_beside 5 72) ∷
    standard_reads (set (with (0x00 ∷ 0x00 ∷ 0x00 ∷ 0x00 ∷ 0x00 ∷ 0x00 ∷ 0x00 ∷ []) 83 90) 127 0xa3) (specimen_shows 800) ∷
    standard_reads (set (with (0x00 ∷ 0x20 ∷ 0x20 ∷ 0x00 ∷ 0x00 ∷ 0x20 ∷ 0x00 ∷ []) 83 90) 127 0x43) (specimen_shows 800) ∷
    standard_reads (set (with (0x00 ∷ 0x00 ∷ 0x00 ∷ 0x21 ∷ 0x00 ∷ 0x00 ∷ 0x00 ∷ []) 83 90) 127 0x82) (blank_beside 5 72) ∷
    standard_reads (set (set specimen 79 0x00) 127 0x05) (specimen_shows 800) ∷
    standard_reads (set (set (with (0x0a ∷ 0x20 ∷ 0x00 ∷ []) 87 90) 75 0xfb) 127 0xfa) (blank_beside 5 72) ∷
    standard_reads (set (set (with (0x0a ∷ 0x20 ∷ 0x20 ∷ 0x20 ∷ 0x20 ∷ 0x20 ∷ 0x00 ∷ []) 101 108) 93 0xfd) 127 0x1c) (blank_beside 5 90) ∷
    standard_reads (set (set specimen 62 0x81) 127 0x6a) (blank_beside 6 54) ∷
    standard_reads full_block full_shows ∷
    standard_reads range_block range_shows ∷
    standard_reads two_timings two_show ∷
    standard_reads (ratio_block 0 0xc5) (ratio_shows (old 0 (Digital true)) 1 1) ∷
    standard_reads (ratio_block 2 0xc3) (ratio_shows (old 2 (Digital true)) 1 1) ∷
    standard_reads (ratio_block 3 0xc2) (ratio_shows (old 3 (Digital true)) 16 10) ∷
    standard_reads (ratio_block 4 0xc1) (ratio_shows (new 4) 16 10) ∷
    standard_reads (head_block 0x0a 3 0xe1 0x20 0x12 0x12 0x5b) (head_shows (told 3 (Made 10) (Digital true) specimen_size (Typed OtherColor))) ∷
    standard_reads (head_block 0x0a 4 0xe1 0x20 0x12 0x12 0x5a) (head_shows (told 4 (Made 10) (Interface (Depth.Bits 16) 1) specimen_size (Encodings false true))) ∷
    standard_reads (head_block 0xff 3 0xd5 0x4f 0x00 0x1a 0x4d) (head_shows (told 3 (Made 255) (Digital true) Size.None (Typed Undefined))) ∷
    standard_reads (head_block 0xff 4 0xd5 0x4f 0x00 0x1a 0x4c) (head_shows (told 4 ModelYear (Interface (Depth.Bits 14) 5) (shape 178 100) (Encodings true true))) ∷
    standard_reads (head_block 0xff 255 0xa5 0x4f 0x00 0x1a 0x81) (head_shows (told 255 ModelYear (Interface (Depth.Bits 8) 5) (shape 178 100) (Encodings true true))) ∷
    standard_reads (head_block 0x36 3 0x2d 0x00 0x4f 0x02 0xd6) (head_shows (told 3 (Made 54) analog Size.None (Typed Monochrome))) ∷
    standard_reads (head_block 0x36 4 0x2d 0x00 0x4f 0x02 0xd5) (head_shows (told 4 (Made 54) analog (shape 100 178) (Typed Monochrome))) ∷
    standard_reads (head_block 0xfe 4 0x80 0x01 0x00 0x02 0x08) (head_shows (told 4 (Made 254) (Interface Depth.Undefined 0) (shape 100 100) (Encodings false false))) ∷
    standard_reads (head_block 0xfe 4 0xff 0x00 0x01 0x12 0x79) (head_shows (told 4 (Made 254) (Interface Depth.Reserved 15) (shape 100 100) (Encodings false true))) ∷
    standard_reads (head_block 0x0a 4 0x9a 0x00 0x00 0x0a 0xdb) (head_shows (told 4 (Made 10) (Interface (Depth.Bits 6) 10) Size.None (Encodings true false))) ∷
    standard_reads (head_block 0x0a 4 0xb2 0xff 0x00 0x0a 0xc4) (head_shows (told 4 (Made 10) (Interface (Depth.Bits 10) 2) (shape 354 100) (Encodings true false))) ∷
    standard_reads (head_block 0x0a 4 0xc3 0x00 0xff 0x0a 0xb3) (head_shows (told 4 (Made 10) (Interface (Depth.Bits 12) 3) (shape 100 354) (Encodings true false))) ∷
    standard_reads (low_limits 3 0x96) (limits_show (old 3 (Digital true)) (rates 255 255 255 255) (rates 255 255 1 255) (rates 255 1 255 1)) ∷
    standard_reads (low_limits 4 0x95) (limits_show (new 4) (rates 255 255 255 255) (rates 255 255 1 255) (rates 255 256 255 256)) ∷
    standard_reads (high_limits 3 0x89) (limits_show (old 3 (Digital true)) (rates 1 255 255 255) (rates 0 0 0 0) (rates 0 0 0 0)) ∷
    standard_reads (high_limits 4 0x88) (limits_show (new 4) (rates 256 510 510 510) (rates 0 255 255 255) (rates 255 255 0 255)) ∷ []

pub cases_hold : Hold cases
unfolding cases shortest longest six full_block range_block two_timings ratio_block head_block limits_block showing specimen_shows full_shows range_shows two_show ratio_shows head_shows limits_show specimen lobby specimen_of named byte word long header maker date product version input_of input size_of gamma_from dpms_of dpms display color front flags_by established standard_timing_of pair_of pair pairs scan padding skip span text sync_of fitted axes timing_of timed detailed spaces closing point_of point ended second points white string_of string raw_of raw tagged descriptor later slots parts plain reading tag_of standard_of before_slots judged record_of said point_at range_in timing_in product_in colors_in input_by image_of gamma_of features_of point_by flags_of pair_by limits_of secondary_of closing_refusal range_refusal blank back_porch across_of down_of of_bits of_int add div
cases_hold = (refl, (refl, (refl, (refl, (refl, (refl, (refl, (refl, (refl, (refl, (refl, (refl, (refl, (refl, (refl, (refl, (refl, (refl, (refl, (refl, (refl, (refl, (refl, (refl, (refl, (refl, (refl, (refl, (refl, (refl, (refl, (refl, (refl, (refl, (refl, (refl, (refl, (refl, (refl, (refl, (refl, (refl, (refl, (refl, (refl, (refl, (refl, (refl, (refl, (refl, (refl, (refl, (refl, (refl, tt))))))))))))))))))))))))))))))))))))))))))))))))))))))
