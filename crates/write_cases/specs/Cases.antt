-- Worked cases, computed: records made of the specimen's front and the lists that stand here, and what is written of each.
use Rattle.std.specs.Prelude.{ℕ, refl, true, false, List, [], ◌∷◌, length, replicate, Some}
use Rattle.std.proofs.Common.{arith}
use Rattle.timing.specs.Axis.{pixels, lines, back_porch, across_of, down_of}
use Rattle.timing.specs.declared.SyncPolarity.TheVariants.{Positive}
use Rattle.timing.specs.declared.StereoType.TheVariants as Stereo
use Rattle.tags.specs.Tags.{tag_of}
use Rattle.standard_record.specs.Seen.{seen, holding}
use Rattle.standard_record.specs.Held.{held_pair, held_timing, held}
use Rattle.standard_record.specs.declared.StandardRecord.{StandardRecord}
use Rattle.standard_record.specs.declared.DetailedTiming.{DetailedTiming}
use Rattle.standard_record.specs.declared.StandardTiming.{StandardTiming}
use Rattle.standard_record.specs.declared.HeldTiming.{HeldTiming}
use Rattle.standard_record.specs.declared.HeldPair.{HeldPair}
use Rattle.standard_record.specs.declared.Held.{Held}
use Rattle.standard_record.specs.declared.Descriptor.{Descriptor}
use Rattle.standard_record.specs.declared.Descriptor.TheVariants.{Name, Range, MakerDefined}
use Rattle.standard_record.specs.declared.SecondaryTiming.TheVariants.{None}
use Rattle.standard_record.specs.declared.Limits.{Limits}
use Rattle.standard_record.specs.declared.Sync.TheVariants.{DigitalSeparate}
use Rattle.standard_record.specs.declared.Week.{Week}
use Rattle.standard_record.specs.declared.Week.TheVariants.{Made, ModelYear}
use Rattle.standard_record.specs.declared.Depth.TheVariants as Depth
use Rattle.standard_record.specs.declared.VideoInput.{VideoInput}
use Rattle.standard_record.specs.declared.VideoInput.TheVariants.{Digital, Interface}
use Rattle.standard_record.specs.declared.ImageSize.{ImageSize}
use Rattle.standard_record.specs.declared.ImageSize.TheVariants as Image
use Rattle.standard_record.specs.declared.DisplayType.TheVariants.{Monochrome, RGBColor}
use Rattle.standard_record.specs.declared.Kind.{Kind}
use Rattle.standard_record.specs.declared.Kind.TheVariants.{Typed, Encodings}
use Rattle.standard_timing.specs.Timing.{timing_in}
use Rattle.standard_parts.specs.Head.{input_of, image_of, gamma_of, features_of}
use Rattle.standard_parts.specs.Timings.{flags_of, pair_of}
use Rattle.standard_head.specs.Head.{product_in, display_in, colors_in}
use Rattle.standard_verdict.specs.Verdict.{before_slots}
use Rattle.standard_slots.specs.Said.{said, point_at, range_in}
use Rattle.standard_parts.specs.Descriptors.{limits_of, secondary_of, closing_refusal, range_refusal}
use Rattle.standard_parts.specs.Color.{point_of}
use Rattle.write_parts.specs.Point.{point_bytes}
use Rattle.standard_reading.specs.Slots.{judged}
use Rattle.standard_reading.specs.Block.{flags_in, record_of, standard_of}
use Rattle.write_timing.specs.Timing.{timing_bytes}
use Rattle.write_parts.specs.Text.{filled}
use Rattle.write_pairs.specs.Pairs.{All}
use Rattle.write_slots.specs.Slot.{slot_bytes}
use Rattle.write_head.specs.Front.{front_bytes}
use Rattle.write_block.specs.Canonical.{body}
use Rattle.write_block.specs.Gives.{Written, wrong_length, no_block, written}
use Rattle.demands.specs.Specimen.{specimen}
use Rattle.write_cases.specs.Computed.{unlike, unread, porch, clock, ratio, letters, number, ends, week_number, input_number, size_number, kind_number, gives}
use Rattle.demands.specs.Panels.{ratio_block, head_block, fd_slot, limits_block, Head, told, specimen_size, shape, analog, old, new, rates}

-- ---- the records

-- the specimen's timing, with this clock and front porch
abbrev lobby : ℕ → ℕ → DetailedTiming
lobby clock front = record {
  clock = clock;
  across = record { active = pixels 800; front = pixels front; sync = pixels 128; back = pixels 88 };
  down = record { active = lines 600; front = lines 1; sync = lines 4; back = lines 23 };
  size = record { width = 320; height = 180 };
  border = record { across = pixels 0; down = lines 0 };
  interlaced = false;
  stereo = Stereo.None;
  sync = DigitalSeparate Positive Positive;
}

abbrev mode : ℕ → ℕ → ℕ → ℕ → StandardTiming
mode width w h rate = record { width = width; ratio = record { width = w; height = h }; rate = rate }

-- a name that a span shows
abbrev called : ℕ → ℕ → Descriptor
called start len = Name (record { start = start; len = len })

-- the specimen's front, with this revision, over these lists, each entry beside its slot's number
unfoldable pub panel_of : ℕ → List HeldTiming → List HeldPair → List Held → StandardRecord
panel_of revision ts ps ds = holding (record {
  product = product_in specimen;
  version = record { version = 1; revision = revision };
  display = display_in specimen;
  basic = colors_in specimen;
  points = [];
  established = flags_in specimen;
  standard = ps;
  detailed = ts;
  descriptors = ds;
  extensions = 0;
})

-- its lists, with this head
unfoldable pub panel_with : Head → List Held → StandardRecord
panel_with head ds = holding (record {
  product = record { maker = (product_in specimen).maker; code = 4660; serial = 1; week = head.week; year = 2020 };
  version = record { version = 1; revision = head.revision };
  display = record {
    input = head.input;
    size = head.size;
    gamma = Some 200;
    features = record { standby = false; suspend = false; lowpower = false; kind = head.kind; srgb = false; preferred = true; gtf = false };
  };
  basic = colors_in specimen;
  points = [];
  established = flags_in specimen;
  standard = held_pair.wrap 0 (mode 1280 5 4 60) ∷ [];
  detailed = held_timing.wrap 1 (lobby 40000000 40) ∷ [];
  descriptors = ds;
  extensions = 0;
})

-- with its own
abbrev pub panel : List HeldTiming → List HeldPair → List Held → StandardRecord
panel = panel_of 3

-- thirteen bytes of the maker's, the first that are lent
abbrev unused : ℕ → Held
unused slot = held.wrap slot (MakerDefined 0 (record { start = 0; len = 13 }))

-- ---- the cases

-- a record, the bytes lent, the output as it was; the number, and the output as it then is
pub record Case : Type 0 where
  pub given : StandardRecord
  pub lent : List ℕ
  pub before : List ℕ
  pub number : ℕ
  pub after : List ℕ

-- an output, as it was
abbrev out : ℕ → List ℕ
out n = replicate n 0x55

-- it is refused, and the output stays as it was
abbrev refusal : StandardRecord → List ℕ → Case
refusal r lent = record { given = r; lent = lent; before = out 128; number = 11; after = out 128 }

-- one timing in the first slot, with this clock and front porch
abbrev first : ℕ → ℕ → List HeldTiming
first clock front = held_timing.wrap 1 (lobby clock front) ∷ []

-- an accepted block with what the reading passes over: dropped digits, 01 01 between pairs, an unused point, 00 as padding, a slot of tag 10
unfoldable pub careless : List ℕ
careless =
    0x00 ∷ 0xff ∷ 0xff ∷ 0xff ∷ 0xff ∷ 0xff ∷ 0xff ∷ 0x00 ∷ 0x84 ∷ 0x5f ∷ 0x34 ∷ 0x12 ∷ 0x01 ∷ 0x00 ∷ 0x00 ∷ 0x00 ∷
    0x0a ∷ 0x1e ∷ 0x01 ∷ 0x03 ∷ 0xff ∷ 0x20 ∷ 0x00 ∷ 0x64 ∷ 0x0a ∷ 0x00 ∷ 0x00 ∷ 0x80 ∷ 0x40 ∷ 0x80 ∷ 0x40 ∷ 0x80 ∷
    0x40 ∷ 0x80 ∷ 0x40 ∷ 0x01 ∷ 0x08 ∷ 0xff ∷ 0x01 ∷ 0x01 ∷ 0x81 ∷ 0x80 ∷ 0x01 ∷ 0x01 ∷ 0x01 ∷ 0x00 ∷ 0x01 ∷ 0x01 ∷
    0x01 ∷ 0x01 ∷ 0x01 ∷ 0x01 ∷ 0x01 ∷ 0x01 ∷ 0xa0 ∷ 0x0f ∷ 0x20 ∷ 0x00 ∷ 0x31 ∷ 0x58 ∷ 0x1c ∷ 0x20 ∷ 0x28 ∷ 0x80 ∷
    0x14 ∷ 0x00 ∷ 0x40 ∷ 0xb4 ∷ 0x10 ∷ 0x00 ∷ 0x00 ∷ 0x1f ∷ 0x00 ∷ 0x00 ∷ 0x07 ∷ 0xfb ∷ 0x07 ∷ 0x00 ∷ 0x09 ∷ 0x09 ∷
    0x09 ∷ 0x09 ∷ 0x01 ∷ 0xf5 ∷ 0x40 ∷ 0x50 ∷ 0xff ∷ 0x0a ∷ 0x20 ∷ 0x20 ∷ 0x00 ∷ 0x00 ∷ 0x07 ∷ 0xfc ∷ 0x07 ∷ 0x4c ∷
    0x4f ∷ 0x0a ∷ 0x00 ∷ 0x20 ∷ 0x00 ∷ 0x20 ∷ 0x00 ∷ 0x20 ∷ 0x00 ∷ 0x20 ∷ 0x00 ∷ 0x20 ∷ 0x00 ∷ 0x00 ∷ 0x07 ∷ 0x10 ∷
    0x07 ∷ 0x09 ∷ 0x09 ∷ 0x09 ∷ 0x09 ∷ 0x09 ∷ 0x09 ∷ 0x09 ∷ 0x09 ∷ 0x09 ∷ 0x09 ∷ 0x09 ∷ 0x09 ∷ 0x09 ∷ 0x00 ∷ 0xbc ∷ []

-- what is written of its record
unfoldable pub careful : List ℕ
careful =
    0x00 ∷ 0xff ∷ 0xff ∷ 0xff ∷ 0xff ∷ 0xff ∷ 0xff ∷ 0x00 ∷ 0x04 ∷ 0x40 ∷ 0x34 ∷ 0x12 ∷ 0x01 ∷ 0x00 ∷ 0x00 ∷ 0x00 ∷
    0x0a ∷ 0x1e ∷ 0x01 ∷ 0x03 ∷ 0x81 ∷ 0x00 ∷ 0x00 ∷ 0x64 ∷ 0x0a ∷ 0x00 ∷ 0x00 ∷ 0x80 ∷ 0x40 ∷ 0x80 ∷ 0x40 ∷ 0x80 ∷
    0x40 ∷ 0x80 ∷ 0x40 ∷ 0x01 ∷ 0x08 ∷ 0x80 ∷ 0x81 ∷ 0x80 ∷ 0x01 ∷ 0x00 ∷ 0x01 ∷ 0x01 ∷ 0x01 ∷ 0x01 ∷ 0x01 ∷ 0x01 ∷
    0x01 ∷ 0x01 ∷ 0x01 ∷ 0x01 ∷ 0x01 ∷ 0x01 ∷ 0xa0 ∷ 0x0f ∷ 0x20 ∷ 0x00 ∷ 0x31 ∷ 0x58 ∷ 0x1c ∷ 0x20 ∷ 0x28 ∷ 0x80 ∷
    0x14 ∷ 0x00 ∷ 0x40 ∷ 0xb4 ∷ 0x10 ∷ 0x00 ∷ 0x00 ∷ 0x1e ∷ 0x00 ∷ 0x00 ∷ 0x00 ∷ 0xfb ∷ 0x00 ∷ 0x01 ∷ 0x05 ∷ 0x40 ∷
    0x50 ∷ 0xff ∷ 0x00 ∷ 0x00 ∷ 0x00 ∷ 0x00 ∷ 0x00 ∷ 0x0a ∷ 0x20 ∷ 0x20 ∷ 0x00 ∷ 0x00 ∷ 0x00 ∷ 0xfc ∷ 0x00 ∷ 0x4c ∷
    0x4f ∷ 0x0a ∷ 0x20 ∷ 0x20 ∷ 0x20 ∷ 0x20 ∷ 0x20 ∷ 0x20 ∷ 0x20 ∷ 0x20 ∷ 0x20 ∷ 0x20 ∷ 0x00 ∷ 0x00 ∷ 0x00 ∷ 0x10 ∷
    0x00 ∷ 0x00 ∷ 0x00 ∷ 0x00 ∷ 0x00 ∷ 0x00 ∷ 0x00 ∷ 0x00 ∷ 0x00 ∷ 0x00 ∷ 0x00 ∷ 0x00 ∷ 0x00 ∷ 0x00 ∷ 0x00 ∷ 0x8c ∷ []

-- the specimen's entries of its last three slots
abbrev own : List Held
own = held.wrap 2 (called 77 5) ∷ held.wrap 3 (MakerDefined 0 (record { start = 95; len = 13 })) ∷ held.wrap 4 (MakerDefined 0 (record { start = 113; len = 13 })) ∷ []

-- a head that no block has
abbrev bad_head : ℕ → Week → VideoInput → ImageSize → Kind → Case
bad_head revision week input size kind = refusal (panel_with (told revision week input size kind) own) specimen

-- it is written so
abbrev writing : Head → List Held → List ℕ → Case
writing h ds block = record { given = panel_with h ds; lent = specimen; before = out 128; number = 0; after = block }

-- one range in a slot
abbrev ranged : ℕ → Limits → Held
ranged slot l = held.wrap slot (Range l None)

-- a block's own record is written as this
abbrev anew : List ℕ → List ℕ → Case
anew block canonical = record { given = (standard_of block).edid; lent = block; before = out 128; number = 0; after = canonical }

-- ranges of the same rates with both codes 1 below digits that are passed over, both 3, and 2 and 3 below such digits
abbrev dropping : ℕ → ℕ → List ℕ
dropping revision sum = limits_block revision (fd_slot 0xf5 0 45 0 45) (fd_slot 0x0f 0 45 0 45) (fd_slot 0xfe 0 45 0 45) sum

unfoldable pub cases : List Case
cases =
    -- the specimen's record
    record {
      given = panel (first 40000000 40) (held_pair.wrap 0 (mode 1280 5 4 60) ∷ []) own;
      lent = specimen;
      before = out 128;
      number = 0;
      after = specimen;
    }
    -- a block's own record, which is written as other bytes
    ∷ anew careless careful
    -- an output of 127 bytes, which is judged first: no block gives this record either
    ∷ record { given = panel [] [] []; lent = []; before = out 127; number = 10; after = out 127 }
    -- 256 wide, 16:10 at 61 Hz, which 01 01 would be
    ∷ refusal (panel (first 40000000 40) (held_pair.wrap 0 (mode 256 16 10 61) ∷ []) []) []
    -- a span one byte outside
    ∷ refusal (panel (first 40000000 40) [] (held.wrap 2 (called 0 3) ∷ [])) (0x4c ∷ 0x4f ∷ [])
    -- a text of length 0 that starts one byte outside
    ∷ refusal (panel (first 40000000 40) [] (held.wrap 2 (called 3 0) ∷ [])) (0x4c ∷ 0x4f ∷ [])
    -- a text that holds 0x0a
    ∷ refusal (panel (first 40000000 40) [] (held.wrap 2 (called 0 3) ∷ [])) (0x4c ∷ 0x0a ∷ 0x4f ∷ [])
    -- two kinds in one slot
    ∷ refusal (panel (held_timing.wrap 1 (lobby 40000000 40) ∷ held_timing.wrap 2 (lobby 40000000 40) ∷ []) [] (held.wrap 2 (called 0 1) ∷ [])) (0x4c ∷ [])
    -- slot numbers that fall
    ∷ refusal (panel (first 40000000 40) [] (held.wrap 3 (called 0 1) ∷ held.wrap 2 (called 0 1) ∷ [])) (0x4c ∷ [])
    -- a first slot without a timing
    ∷ refusal (panel [] [] []) []
    -- a porch of 1,024
    ∷ refusal (panel (first 40000000 1024) [] []) []
    -- a clock of 0
    ∷ refusal (panel (first 0 40) [] []) []
    -- a clock that is no multiple of 10,000
    ∷ refusal (panel (first 40000001 40) [] []) []
    -- 1:1 at revision 2, before the slots and in one
    ∷ record {
      given = panel_of 2 (first 40000000 40) (held_pair.wrap 0 (mode 1280 1 1 60) ∷ held_pair.wrap 2 (mode 1920 1 1 60) ∷ []) (unused 3 ∷ unused 4 ∷ []);
      lent = replicate 13 0x00;
      before = out 128;
      number = 0;
      after = ratio_block 2 0xc3;
    }
    -- 16:10 there, before the slots, and in one
    ∷ refusal (panel_of 2 (first 40000000 40) (held_pair.wrap 0 (mode 1280 16 10 60) ∷ []) []) []
    ∷ refusal (panel_of 2 (first 40000000 40) (held_pair.wrap 2 (mode 1920 16 10 60) ∷ []) []) []
    -- 256 wide, 1:1 at 61 Hz there, which 01 01 would be
    ∷ refusal (panel_of 2 (first 40000000 40) (held_pair.wrap 0 (mode 256 1 1 61) ∷ []) []) []
    -- 1:1 at revision 3, before the slots, and in one
    ∷ refusal (panel_of 3 (first 40000000 40) (held_pair.wrap 0 (mode 1280 1 1 60) ∷ []) []) []
    ∷ refusal (panel_of 3 (first 40000000 40) (held_pair.wrap 2 (mode 1920 1 1 60) ∷ []) []) []
    -- revision 4: a model year, 14 bits, 354:100 and two encodings; a reserved depth, and 100:100 across; an analog input, and a ratio down
    ∷ writing (told 4 ModelYear (Interface (Depth.Bits 14) 5) (shape 354 100) (Encodings true true)) own (head_block 0xff 4 0xd5 0xff 0x00 0x1a 0x9c)
    ∷ writing (told 4 (Made 254) (Interface Depth.Reserved 15) (shape 100 100) (Encodings false true)) own (head_block 0xfe 4 0xff 0x01 0x00 0x12 0x79)
    ∷ writing (told 4 (Made 54) analog (shape 100 178) (Typed Monochrome)) own (head_block 0x36 4 0x2d 0x00 0x4f 0x02 0xd5)
    -- revision 3: week 255
    ∷ writing (told 3 (Made 255) (Digital true) specimen_size (Typed RGBColor)) own (head_block 0xff 3 0x81 0x20 0x12 0x0a 0xce)
    -- the lowest code of the offsets: none up to 255; to the upper end alone, as from 255 to 300; to both from 256 on
    ∷ writing (new 4) (ranged 2 (rates 255 255 255 255) ∷ ranged 3 (rates 255 300 255 510) ∷ ranged 4 (rates 256 255 256 510) ∷ [])
    (limits_block 4 (fd_slot 0x00 255 255 255 255) (fd_slot 0x0a 255 45 255 255) (fd_slot 0x0f 1 0 1 255) 0x5e)
    -- a code for each axis: 2 and 3, 3 and 0, 0 and 2
    ∷ writing (new 4) (ranged 2 (rates 50 300 256 300) ∷ ranged 3 (rates 256 300 50 75) ∷ ranged 4 (rates 50 75 50 300) ∷ [])
    (limits_block 4 (fd_slot 0x0e 50 45 1 45) (fd_slot 0x03 1 45 50 75) (fd_slot 0x08 50 75 50 45) 0x71)
    -- offset digits that are dropped: all at revision 3; at revision 4 code 1 and the digits above the codes, and 255 to 300 is written with code 2
    ∷ anew (dropping 3 0x8f) (limits_block 3 (fd_slot 0x00 0 45 0 45) (fd_slot 0x00 0 45 0 45) (fd_slot 0x00 0 45 0 45) 0x91)
    ∷ anew (dropping 4 0x8e) (limits_block 4 (fd_slot 0x00 0 45 0 45) (fd_slot 0x0a 255 45 255 45) (fd_slot 0x0a 0 45 255 45) 0x7f)
    -- a model year, an interface, a ratio and encodings at revision 3, each alone
    ∷ bad_head 3 ModelYear (Digital true) Image.None (Typed RGBColor)
    ∷ bad_head 3 (Made 10) (Interface (Depth.Bits 8) 5) Image.None (Encodings true false)
    ∷ bad_head 3 (Made 10) (Digital true) (shape 178 100) (Typed RGBColor)
    ∷ bad_head 3 (Made 10) (Digital true) Image.None (Encodings true false)
    -- week 255 and an input of revision 3 at revision 4
    ∷ bad_head 4 (Made 255) (Interface (Depth.Bits 8) 5) Image.None (Encodings true false)
    ∷ bad_head 4 (Made 10) (Digital true) Image.None (Typed RGBColor)
    -- a type beside an interface, encodings beside an analog input
    ∷ bad_head 4 (Made 10) (Interface (Depth.Bits 8) 5) Image.None (Typed RGBColor)
    ∷ bad_head 4 (Made 10) analog Image.None (Encodings true false)
    -- 7 and 18 bits, interface 16, ratios of 99:100, 178:99 and 355:100
    ∷ bad_head 4 (Made 10) (Interface (Depth.Bits 7) 5) Image.None (Encodings true false)
    ∷ bad_head 4 (Made 10) (Interface (Depth.Bits 18) 5) Image.None (Encodings true false)
    ∷ bad_head 4 (Made 10) (Interface (Depth.Bits 8) 16) Image.None (Encodings true false)
    ∷ bad_head 4 (Made 10) (Interface (Depth.Bits 8) 5) (shape 99 100) (Encodings true false)
    ∷ bad_head 4 (Made 10) (Interface (Depth.Bits 8) 5) (shape 178 99) (Encodings true false)
    ∷ bad_head 4 (Made 10) (Interface (Depth.Bits 8) 5) (shape 355 100) (Encodings true false)
    -- 256 Hz at revision 3; 511 Hz, 511 kHz, and 256 with 254 above it, at revision 4
    ∷ refusal (panel_with (old 3 (Digital true)) (ranged 2 (rates 50 256 30 80) ∷ [])) []
    ∷ refusal (panel_with (new 4) (ranged 2 (rates 50 511 30 80) ∷ [])) []
    ∷ refusal (panel_with (new 4) (ranged 2 (rates 50 75 30 511) ∷ [])) []
    ∷ refusal (panel_with (new 4) (ranged 2 (rates 256 254 30 80) ∷ [])) []
    ∷ []

-- ---- what is written of each

infixr 4 ◌also◌
◌also◌ : {P Q : Type 0} → P → Q → P × Q
p also q = (p, q)

pub all_written : All (λ c. Written c.given c.lent c.before c.number c.after) cases
unfolding cases careless careful panel_of panel_with specimen ratio_block head_block limits_block seen body front_bytes slot_bytes timing_bytes filled product_in colors_in input_of image_of gamma_of features_of flags_of standard_of record_of judged before_slots said timing_in across_of down_of back_porch tag_of pair_of closing_refusal range_refusal range_in limits_of secondary_of point_at point_of point_bytes
all_written =
    written refl (gives _ _ _ refl refl (omega arith, (omega arith, (omega arith, tt))) refl) refl refl
    also written refl (gives _ _ _ refl refl (omega arith, tt) refl) refl refl
    also wrong_length (λ e. omega (arith, e)) refl refl
    also no_block refl (unlike _ _ (λ s. length s.standard) refl) refl refl
    also no_block refl (λ b g. omega (arith, g.inside.0)) refl refl
    also no_block refl (λ b g. omega (arith, g.inside.0)) refl refl
    also no_block refl (unlike _ _ (λ s. letters s.descriptors) refl) refl refl
    also no_block refl (unlike _ _ (λ s. length s.descriptors) refl) refl refl
    also no_block refl (unlike _ _ (λ s. number s.descriptors) refl) refl refl
    also no_block refl (unread _ _ refl) refl refl
    also no_block refl (unlike _ _ (λ s. porch s.detailed) refl) refl refl
    also no_block refl (unread _ _ refl) refl refl
    also no_block refl (unlike _ _ (λ s. clock s.detailed) refl) refl refl
    also written refl (gives _ _ _ refl refl (omega arith, (omega arith, tt)) refl) refl refl
    also no_block refl (unlike _ _ (λ s. ratio s.standard) refl) refl refl
    also no_block refl (unlike _ _ (λ s. ratio s.standard) refl) refl refl
    also no_block refl (unlike _ _ (λ s. length s.standard) refl) refl refl
    also no_block refl (unlike _ _ (λ s. ratio s.standard) refl) refl refl
    also no_block refl (unlike _ _ (λ s. ratio s.standard) refl) refl refl
    also written refl (gives _ _ _ refl refl (omega arith, (omega arith, (omega arith, tt))) refl) refl refl
    also written refl (gives _ _ _ refl refl (omega arith, (omega arith, (omega arith, tt))) refl) refl refl
    also written refl (gives _ _ _ refl refl (omega arith, (omega arith, (omega arith, tt))) refl) refl refl
    also written refl (gives _ _ _ refl refl (omega arith, (omega arith, (omega arith, tt))) refl) refl refl
    also written refl (gives _ _ _ refl refl (tt, (tt, (tt, tt))) refl) refl refl
    also written refl (gives _ _ _ refl refl (tt, (tt, (tt, tt))) refl) refl refl
    also written refl (gives _ _ _ refl refl (tt, (tt, (tt, tt))) refl) refl refl
    also written refl (gives _ _ _ refl refl (tt, (tt, (tt, tt))) refl) refl refl
    also no_block refl (unlike _ _ (λ s. week_number s.front.product.week) refl) refl refl
    also no_block refl (unlike _ _ (λ s. input_number s.front.display.input) refl) refl refl
    also no_block refl (unlike _ _ (λ s. size_number s.front.display.size) refl) refl refl
    also no_block refl (unlike _ _ (λ s. kind_number s.front.display.features.kind) refl) refl refl
    also no_block refl (unlike _ _ (λ s. week_number s.front.product.week) refl) refl refl
    also no_block refl (unlike _ _ (λ s. input_number s.front.display.input) refl) refl refl
    also no_block refl (unlike _ _ (λ s. kind_number s.front.display.features.kind) refl) refl refl
    also no_block refl (unlike _ _ (λ s. kind_number s.front.display.features.kind) refl) refl refl
    also no_block refl (unlike _ _ (λ s. input_number s.front.display.input) refl) refl refl
    also no_block refl (unlike _ _ (λ s. input_number s.front.display.input) refl) refl refl
    also no_block refl (unlike _ _ (λ s. input_number s.front.display.input) refl) refl refl
    also no_block refl (unlike _ _ (λ s. size_number s.front.display.size) refl) refl refl
    also no_block refl (unlike _ _ (λ s. size_number s.front.display.size) refl) refl refl
    also no_block refl (unlike _ _ (λ s. size_number s.front.display.size) refl) refl refl
    also no_block refl (unlike _ _ (λ s. ends s.descriptors) refl) refl refl
    also no_block refl (unlike _ _ (λ s. ends s.descriptors) refl) refl refl
    also no_block refl (unlike _ _ (λ s. ends s.descriptors) refl) refl refl
    also no_block refl (unlike _ _ (λ s. ends s.descriptors) refl) refl refl
    also tt
