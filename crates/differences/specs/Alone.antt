-- No mark is superfluous: for each a block that has it alone, that both readings accept and read apart. antt computes them. And the specimen, which has
-- no mark: what `Whole` asks of a block holds of some.
use Rattle.std.specs.Prelude.{ℕ, ◌+◌, ◌<◌, ◌≡◌, refl, Bool, true, false, cond, List, [], ◌∷◌, ◌++◌, eqb, ltb, length, take, drop, set, Ok, None}
use Rattle.std.proofs.Common.{ap, arith, ltb-true}
use Rattle.std.proofs.lemmas.Bool.{false≢true, eqb-false}
use Rattle.std.specs.Float.{binary32}
use Rattle.std.specs.Float.Ieee.{of_bits, to_bits, of_int, add, div}
use Rattle.steps.specs.Steps.{Outcome, got, refused}
use Rattle.steps.specs.Answers.{taken}
use Rattle.steps.specs.Leaves.{byte, word, long}
use Rattle.timing.specs.Axis.{back_porch, across_of, down_of}
use Rattle.tags.specs.Tags.{tag_of}
use Rattle.crate_record.specs.Filler.{blank as crate_blank}
use Rattle.crate_record.specs.Seen.{Seen as CrateSeen, seen}
use Rattle.crate_record.specs.Single.{gamma_of as crate_gamma_of}
use Rattle.crate_record.specs.declared.EDID.{EDID}
use Rattle.crate_record.specs.declared.MonitorDescriptor.{MonitorDescriptor}
use Rattle.crate_head.specs.Head.{header, maker, date, product, version, input_of as crate_input_of, input, size_of, gamma_from as crate_gamma_from, dpms_of, dpms, display, color, front}
use Rattle.crate_text.specs.Text.{scan, padding, skip, span, text}
use Rattle.crate_descriptors.specs.Descriptors.{spaces, closing, point_of as crate_point_of, point, ended, second, points, white, string_of, string, raw_of, raw, limits_of as crate_limits_of, none, gtf_of, gtf, other, secondary, range, tagged, descriptor}
use Rattle.crate_timings.specs.Established.{flags_of as crate_flags_of, established}
use Rattle.crate_timings.specs.Pairs.{standard_timing_of, pair_of as crate_pair_of, pair, pairs}
use Rattle.crate_detailed.specs.Detailed.{sync_of as crate_sync_of, fitted, axes, timing_of, timed, detailed}
use Rattle.crate_slots.specs.Slots.{later, slots}
use Rattle.crate_reading.specs.Reading.{answer, parts, plain as crate_plain, reading}
use Rattle.standard_record.specs.Seen.{seen as standard_seen}
use Rattle.standard_record.specs.Filler.{blank}
use Rattle.standard_timing.specs.Timing.{timing_in}
use Rattle.standard_parts.specs.Text.{every}
use Rattle.standard_parts.specs.Head.{input_of, image_of, gamma_of, features_of}
use Rattle.standard_parts.specs.Color.{point_of}
use Rattle.standard_parts.specs.Timings.{flags_of, pair_of}
use Rattle.standard_parts.specs.Descriptors.{limits_of, secondary_of, closing_refusal, range_refusal}
use Rattle.standard_head.specs.Head.{product_in, colors_in}
use Rattle.standard_verdict.specs.Verdict.{before_slots}
use Rattle.standard_slots.specs.Said.{point_at, range_in, said}
use Rattle.standard_reading.specs.Block.{standard_of, record_of}
use Rattle.standard_reading.specs.Slots.{judged}
use Rattle.write_leaf.specs.Bytes.{Bytes, digit}
use Rattle.write_leaf.specs.Again.{cons_bytes}
use Rattle.marking.specs.Marks.{marks_in}
use Rattle.marking.specs.declared.Marks.{Marks}
use Rattle.demands.specs.Specimen.{specimen}
use Rattle.differences.specs.Converted.{point_gamma, converted}
use Rattle.differences.specs.Unmarked.{Block, Unmarked, Agree}
use Rattle.differences.specs.Slots.{none_of}

-- the marks of s are these, both readings accept it, and the records do not agree
pub record Parting (s : List ℕ) (marks : Marks) : Type 0 where
  pub block : Block s
  pub marked : marks_in s ≡ marks
  pub crate : EDID
  pub bytes : ℕ
  pub answered : answer s ≡ got crate bytes
  pub accepted : (standard_of s).end ≡ Ok tt
  pub apart : Agree s (seen crate) (standard_seen (standard_of s).edid) → ⊥

-- ---- by computation

-- the record of an answer
abbrev record_in : Outcome EDID → EDID
record_in (got e n) = e
record_in (refused k n) = crate_blank

-- where to look for the difference: a number of what a crate record shows
record Exhibit : Type 0 where
  marks : Marks
  block : List ℕ
  look : CrateSeen → ℕ

abbrev crate_shows : List ℕ → CrateSeen
crate_shows s = seen (record_in (answer s))

record Computes (x : Exhibit) : Type 0 where
  pub size : length x.block ≡ 128
  pub bytes : every (λ b. ltb b 256) x.block ≡ true
  pub marked : marks_in x.block ≡ x.marks
  pub answered : answer x.block ≡ got (record_in (answer x.block)) (taken (answer x.block))
  pub accepted : (standard_of x.block).end ≡ Ok tt
  pub differs :
      eqb (x.look (crate_shows x.block))
      (x.look (converted (crate_shows x.block).product.maker (standard_seen (standard_of x.block).edid))) ≡ false

all_bytes_lem : (s : List ℕ) → every (λ b. ltb b 256) s ≡ true → Bytes s
all_bytes_lem [] h = λ i. omega arith
all_bytes_lem (b ∷ s) h = go (ltb b 256) refl h (all_bytes_lem s)
  where
    go : (t : Bool) → ltb b 256 ≡ t → cond t (every (λ c. ltb c 256) s) false ≡ true → (every (λ c. ltb c 256) s ≡ true → Bytes s) → Bytes (b ∷ s)
    go true e q rest = cons_bytes b s (ltb-true b 256 e) (rest q)
    go false e q rest = absurd (false≢true q)

parting : (x : Exhibit) → Computes x → Parting x.block x.marks
parting x c = record {
  block = record { size = c.size; bytes = all_bytes_lem x.block c.bytes };
  marked = c.marked;
  crate = record_in (answer x.block);
  bytes = taken (answer x.block);
  answered = c.answered;
  accepted = c.accepted;
  apart = λ a. eqb-false _ _ c.differs (ap x.look a.rest);
}

-- ---- the blocks: the specimen with other bytes from a place on, and its sum put right

abbrev with : ℕ → List ℕ → ℕ → List ℕ
with at bytes sum = set (take at specimen ++ bytes ++ drop (at + length bytes) specimen) 127 sum

-- slot 2 holds a timing 768 pixels wide
abbrev active_block : List ℕ
active_block = with 72 (0xa0 ∷ 0x0f ∷ 0x00 ∷ 0x00 ∷ 0x31 ∷ 0x58 ∷ 0x1c ∷ 0x20 ∷ 0x28 ∷ 0x80 ∷ 0x14 ∷ 0x00 ∷ 0x40 ∷ 0xb4 ∷ 0x10 ∷ 0x00 ∷ 0x00 ∷ 0x1e ∷ []) 0xcf

-- slot 3 has tag 10, and there is one extension
abbrev dummy_block : List ℕ
dummy_block = set (with 93 (0x10 ∷ []) 0xb2) 126 0x01

-- slot 2 holds one point, in the second place; and two points, of which the first has no gamma
abbrev index_block : List ℕ
index_block = with 75 (0xfb ∷ 0x00 ∷ 0x00 ∷ 0x00 ∷ 0x00 ∷ 0x00 ∷ 0x00 ∷ 0x02 ∷ 0x05 ∷ 0x50 ∷ 0x54 ∷ 0x78 ∷ 0x0a ∷ 0x20 ∷ 0x20 ∷ []) 0xb9

abbrev gamma_block : List ℕ
gamma_block = with 75 (0xfb ∷ 0x00 ∷ 0x01 ∷ 0x05 ∷ 0x50 ∷ 0x54 ∷ 0xff ∷ 0x02 ∷ 0x05 ∷ 0x50 ∷ 0x54 ∷ 0x78 ∷ 0x0a ∷ 0x20 ∷ 0x20 ∷ []) 0x10

-- revision 2, and a pair of ratio code 0
abbrev ratio_block : List ℕ
ratio_block = set (with 39 (0x00 ∷ []) 0x44) 19 0x02

-- revision 4, and slot 3 holds range limits with offsets
abbrev revision_block : List ℕ
revision_block = set (with 93 (0xfd ∷ 0x0e ∷ 0x38 ∷ 0x2d ∷ 0x1e ∷ 0x2d ∷ 0x0f ∷ 0x00 ∷ 0x0a ∷ 0x20 ∷ 0x20 ∷ 0x20 ∷ 0x20 ∷ 0x20 ∷ 0x20 ∷ []) 0x2e) 19 0x04

-- ---- the entries

abbrev these : Bool → Bool → Bool → Bool → Bool → Bool → Marks
these active dummy index gamma ratio revision =
    record { active = active; dummy = dummy; index = index; gamma = gamma; ratio = ratio; revision = revision }

-- the highest vertical rate, of a descriptor that has one
abbrev vmax_of : MonitorDescriptor → ℕ
vmax_of (MonitorDescriptor.RangeLimits l t) = l.vmax
vmax_of (MonitorDescriptor.SerialNumber t) = 0
vmax_of (MonitorDescriptor.OtherString t) = 0
vmax_of (MonitorDescriptor.MonitorName t) = 0
vmax_of (MonitorDescriptor.Undefined tag run) = 0
vmax_of (MonitorDescriptor.ManufacturerDefined tag run) = 0

-- of the first entry, 0 where there is none
abbrev first : {A : Type 0} → (A → ℕ) → List A → ℕ
first f [] = 0
first f (a ∷ rest) = f a

unfoldable exhibits : List Exhibit
exhibits =
    record { marks = these true false false false false false; block = active_block; look = λ x. length x.detailed } ∷
    record { marks = these false true false false false false; block = dummy_block; look = λ x. x.extensions } ∷
    record { marks = these false false true false false false; block = index_block; look = λ x. first (λ p. p.index) x.points } ∷
    record { marks = these false false false true false false; block = gamma_block; look = λ x. first (λ p. to_bits binary32 p.gamma) x.points } ∷
    record { marks = these false false false false true false; block = ratio_block; look = λ x. first (λ p. to_bits binary32 p.ratio) x.standard } ∷
    record { marks = these false false false false false true; block = revision_block; look = λ x. first (λ h. vmax_of h) (drop 1 x.descriptors) } ∷ []

abbrev Each : (Exhibit → Type 0) → List Exhibit → Type 0
Each P [] = Unit {0}
Each P (x ∷ xs) = P x × Each P xs

computed : Each Computes exhibits
unfolding exhibits specimen seen standard_seen converted marks_in byte word long header maker date product version crate_input_of input size_of crate_gamma_from dpms_of dpms display color front crate_flags_of established standard_timing_of crate_pair_of pair pairs scan padding skip span text crate_sync_of fitted axes timing_of timed detailed spaces closing crate_point_of point ended second points white string_of string raw_of raw crate_limits_of none gtf_of gtf other secondary range tagged descriptor later slots parts crate_plain reading tag_of standard_of before_slots judged record_of said point_at range_in timing_in product_in colors_in input_of image_of gamma_of features_of point_of flags_of pair_of limits_of secondary_of closing_refusal range_refusal blank back_porch across_of down_of of_bits to_bits of_int add div
computed = (
  record { size = refl; bytes = refl; marked = refl; answered = refl; accepted = refl; differs = refl },
  (
    record { size = refl; bytes = refl; marked = refl; answered = refl; accepted = refl; differs = refl },
    (
      record { size = refl; bytes = refl; marked = refl; answered = refl; accepted = refl; differs = refl },
      (
        record { size = refl; bytes = refl; marked = refl; answered = refl; accepted = refl; differs = refl },
        (
          record { size = refl; bytes = refl; marked = refl; answered = refl; accepted = refl; differs = refl },
          (record { size = refl; bytes = refl; marked = refl; answered = refl; accepted = refl; differs = refl }, tt),
        ),
      ),
    ),
  ),
)

-- ---- of each mark

abbrev pub how_many : Marks → ℕ
how_many m = digit m.active + digit m.dummy + digit m.index + digit m.gamma + digit m.ratio + digit m.revision

pub each_mark_parts : (m : Marks) → how_many m ≡ 1 → (s : List ℕ) × Parting s m
unfolding exhibits
each_mark_parts m = go m.active m.dummy m.index m.gamma m.ratio m.revision
  where
    alone : (x : Exhibit) → Computes x → (s : List ℕ) × Parting s x.marks
    alone x c = (x.block, parting x c)

    go : (active dummy index gamma ratio revision : Bool) → digit active + digit dummy + digit index + digit gamma + digit ratio + digit revision ≡ 1
        → (s : List ℕ) × Parting s (these active dummy index gamma ratio revision)
    go true false false false false false h = alone _ computed.0
    go false true false false false false h = alone _ computed.1.0
    go false false true false false false h = alone _ computed.1.1.0
    go false false false true false false h = alone _ computed.1.1.1.0
    go false false false false true false h = alone _ computed.1.1.1.1.0
    go false false false false false true h = alone _ computed.1.1.1.1.1.0
    go false false false false false false h = absurd (omega arith)
    go true true index gamma ratio revision h = absurd (omega arith)
    go true false true gamma ratio revision h = absurd (omega arith)
    go true false false true ratio revision h = absurd (omega arith)
    go true false false false true revision h = absurd (omega arith)
    go true false false false false true h = absurd (omega arith)
    go false true true gamma ratio revision h = absurd (omega arith)
    go false true false true ratio revision h = absurd (omega arith)
    go false true false false true revision h = absurd (omega arith)
    go false true false false false true h = absurd (omega arith)
    go false false true true ratio revision h = absurd (omega arith)
    go false false true false true revision h = absurd (omega arith)
    go false false true false false true h = absurd (omega arith)
    go false false false true true revision h = absurd (omega arith)
    go false false false true false true h = absurd (omega arith)
    go false false false false true true h = absurd (omega arith)

-- the gamma that stands for none is that of no byte
pub never_that_gamma : (v : ℕ) → v < 256 → crate_gamma_of v ≡ point_gamma None → ⊥
unfolding of_bits to_bits of_int add div
never_that_gamma v h e =
    eqb-false _ _ (none_of 256 (λ k. eqb (to_bits binary32 (crate_gamma_of k)) (to_bits binary32 (point_gamma None))) refl v h) (ap (to_bits binary32) e)

-- ---- no mark

pub specimen_is_unmarked : Block specimen × Unmarked specimen
unfolding specimen marks_in
specimen_is_unmarked =
    (record { size = refl; bytes = all_bytes_lem specimen refl }, record { clear = record { active = refl; dummy = refl; index = refl; gamma = refl; ratio = refl }; revision = refl })
