-- Worked cases of the definition, as entries of one list under one claim. antt computes each.
use Rattle.std.specs.Prelude.{ℕ, zero, suc, ◌+◌, false, ◌≡◌, refl, take, replicate, set, Ok}
use mathlib.Core.List.{List, [], ◌∷◌, ◌++◌, flat_map}
use Rattle.sums.specs.Joined.{checksum}
use Rattle.timing.specs.Axis.{pixels, lines, back_porch, across_of, down_of}
use Rattle.timing.specs.declared.SyncPolarity.TheVariants.{Positive}
use Rattle.timing.specs.declared.StereoType.TheVariants as Stereo
use Rattle.standard_record.specs.declared.DetailedTiming.{DetailedTiming}
use Rattle.standard_record.specs.declared.Sync.TheVariants.{DigitalSeparate}
use Rattle.standard_timing.specs.Timing.{timing_in}
use Rattle.standard_verdict.specs.Verdict.{refused_at}
use Rattle.cta_record.specs.Filler.{blank}
use Rattle.cta_record.specs.Seen.{holding}
use Rattle.cta_record.specs.declared.DataBlock.{DataBlock}
use Rattle.cta_record.specs.declared.CtaReading.{CtaReading}
use Rattle.cta_reading.specs.Cta.{blocks_in, timings_in, before_blocks, cta_of}

-- a block that begins with these bytes, then zeros, and the byte that makes its sum zero
unfoldable pub begins : List ℕ → List ℕ
begins bytes = let front = take 127 (bytes ++ replicate 127 0) in front ++ checksum front ∷ []

-- an extension of revision 3 with this offset, and this behind byte 3
abbrev pub extension : ℕ → List ℕ → List ℕ
extension d body = begins (0x02 ∷ 0x03 ∷ d ∷ 0x71 ∷ body)

-- what it shows
abbrev pub showing : ℕ → List ℕ → List DataBlock → List DetailedTiming → CtaReading
showing d video blocks timings =
    record { cta = holding (record { revision = 3; offset = d; support = 0x71; video = video; blocks = blocks; timings = timings }); end = Ok tt }

abbrev pub refused : ℕ → ℕ → CtaReading
refused n at = record { cta = blank; end = refused_at n at }

abbrev pub block : ℕ → ℕ → ℕ → DataBlock
block tag start len = record { tag = tag; run = record { start = start; len = len } }

-- 18 bytes with this front porch, below 256, and the timing that they are with one of 40
unfoldable pub bytes : ℕ → List ℕ
bytes front = 0xa0 ∷ 0x0f ∷ 0x20 ∷ 0x00 ∷ 0x31 ∷ 0x58 ∷ 0x1c ∷ 0x20 ∷ front ∷ 0x80 ∷ 0x14 ∷ 0x00 ∷ 0x40 ∷ 0xb4 ∷ 0x10 ∷ 0x00 ∷ 0x00 ∷ 0x1e ∷ []

abbrev pub lobby : DetailedTiming
lobby = record {
  clock = 40000000;
  across = record { active = pixels 800; front = pixels 40; sync = pixels 128; back = pixels 88 };
  down = record { active = lines 600; front = lines 1; sync = lines 4; back = lines 23 };
  size = record { width = 320; height = 180 };
  border = record { across = pixels 0; down = lines 0 };
  interlaced = false;
  stereo = Stereo.None;
  sync = DigitalSeparate Positive Positive;
}

-- n times the same, one behind the other
abbrev pub times : ℕ → List ℕ → List ℕ
times zero xs = []
times (suc n) xs = xs ++ times n xs

-- n blocks of length 0 and tag 7, from start on
abbrev pub empties : ℕ → ℕ → List DataBlock
empties zero start = []
empties (suc n) start = block 7 start 0 ∷ empties n (start + 1)

pub record Case : Type 0 where
  pub given : List ℕ
  pub read : CtaReading

infix 10 ◌reads◌
abbrev pub ◌reads◌ : List ℕ → CtaReading → Case
s reads r = record { given = s; read = r }

unfoldable pub cases : List Case
cases =
    -- the offset is 0, whatever follows; 4; 3 and 128
    (extension 0 (bytes 40) reads showing 0 [] [] []) ∷
    (extension 4 [] reads showing 4 [] [] []) ∷
    (extension 3 [] reads refused 13 2) ∷
    (extension 128 [] reads refused 13 2) ∷
    -- the offset is 127: as many descriptor bytes, and as many blocks, as can be
    (extension 127 (times 3 (0x5f ∷ replicate 31 16) ++ 0x5a ∷ replicate 26 4) reads showing 127 (replicate 93 16 ++ replicate 26 4) [] []) ∷
    (extension 127 (replicate 123 0xe0) reads showing 127 [] (empties 123 5) []) ∷
    -- a block ends at the offset, or a byte behind it: the first, the second
    (extension 7 (0x22 ∷ 9 ∷ 7 ∷ []) reads showing 7 [] (block 1 5 2 ∷ []) []) ∷
    (extension 7 (0x23 ∷ 9 ∷ 7 ∷ []) reads refused 13 4) ∷
    (extension 8 (0x61 ∷ 3 ∷ 0x42 ∷ 16 ∷ []) reads refused 13 6) ∷
    -- blocks of length 0 between others, with tag 2 and with another
    (extension 10 (0x41 ∷ 16 ∷ 0xe0 ∷ 0x40 ∷ 0x41 ∷ 4 ∷ []) reads showing 10 (16 ∷ 4 ∷ []) (block 7 7 0 ∷ []) []) ∷
    -- six timings, the last up to byte 127; one byte further the sixth has no room
    (extension 19 (0x6e ∷ replicate 14 1 ++ times 6 (bytes 40)) reads showing 19 [] (block 3 5 14 ∷ []) (replicate 6 lobby)) ∷
    (extension 20 (0x6f ∷ replicate 15 1 ++ times 6 (bytes 40)) reads showing 20 [] (block 3 5 15 ∷ []) (replicate 5 lobby)) ∷
    -- a clock of 0 between two timings
    (extension 4 (bytes 40 ++ replicate 18 0 ++ bytes 40) reads showing 4 [] [] (lobby ∷ [])) ∷
    -- a porch too long in the second timing, and before it a block that runs past the offset
    (extension 4 (bytes 40 ++ bytes 0x81) reads refused 6 22) ∷
    (extension 5 (0x21 ∷ bytes 0x81) reads refused 13 4) ∷
    -- too short; a wrong sum, and a wrong first byte; both; a wrong first byte and a wrong offset
    (take 127 (extension 4 []) reads refused 7 0) ∷
    (set (extension 4 []) 100 1 reads refused 8 127) ∷
    (begins (0x70 ∷ 0x03 ∷ 4 ∷ []) reads refused 12 0) ∷
    (set (extension 4 []) 0 0x70 reads refused 8 127) ∷
    (begins (0x70 ∷ 0x03 ∷ 3 ∷ []) reads refused 12 0) ∷ []

abbrev pub Hold : List Case → Type 0
Hold [] = Unit {0}
Hold (c ∷ cs) = (cta_of c.given ≡ c.read) × Hold cs

pub cases_hold : Hold cases
unfolding cases begins bytes flat_map blocks_in timings_in before_blocks cta_of timing_in across_of down_of back_porch blank
cases_hold = (refl, (refl, (refl, (refl, (refl, (refl, (refl, (refl, (refl, (refl, (refl, (refl, (refl, (refl, (refl, (refl, (refl, (refl, (refl, (refl, tt))))))))))))))))))))
