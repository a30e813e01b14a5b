-- How a refusal is computed: from what is read of the canonical block, a number of which is another.
use Rattle.std.specs.Prelude.{ℕ, ◌+◌, ◌*◌, ◌≡◌, refl, Bool, true, false, cond, List, [], ◌∷◌, eqb, ltb, length, Ok, Err}
use Rattle.std.proofs.Common.{sym, ap, ◌∙◌, true≢false, arith, ltb-true}
use Rattle.std.proofs.lemmas.Bool.{eqb-false}
use Rattle.standard_record.specs.Seen.{seen}
use Rattle.standard_record.specs.declared.StandardRecord.{StandardRecord}
use Rattle.standard_record.specs.declared.HeldTiming.{HeldTiming}
use Rattle.standard_record.specs.declared.HeldPair.{HeldPair}
use Rattle.standard_record.specs.declared.Week.{Week}
use Rattle.standard_record.specs.declared.Week.TheVariants.{Made, ModelYear}
use Rattle.standard_record.specs.declared.Depth.{Depth}
use Rattle.standard_record.specs.declared.VideoInput.{VideoInput}
use Rattle.standard_record.specs.declared.VideoInput.TheVariants.{Analog, Digital, Interface}
use Rattle.standard_record.specs.declared.ImageSize.{ImageSize}
use Rattle.standard_record.specs.declared.ImageSize.TheVariants as Image
use Rattle.standard_record.specs.declared.Kind.{Kind}
use Rattle.standard_record.specs.declared.Kind.TheVariants.{Typed, Encodings}
use Rattle.standard_record.specs.Verdict.{Verdict}
use Rattle.standard_parts.specs.Text.{every}
use Rattle.standard_reading.specs.Slots.{verdict_of}
use Rattle.standard_reading.specs.Block.{plain, standard_of}
use Rattle.standard_reading.specs.Judged.{end_is_verdict}
use Rattle.write_leaf.specs.Again.{cons_bytes}
use Rattle.write_leaf.specs.Bytes.{Bytes}
use Rattle.write_slots.specs.Words.{Words, serial, text, range, name, undefined, maker_defined}
use Rattle.write_block.specs.Shown.{Shown, shown}
use Rattle.write_block.specs.Canonical.{block_of}
use Rattle.write_block.specs.Gives.{SpansInside, Gives, NoneGives}
use Rattle.write_block.specs.Given.{same}
use Rattle.write_block.proofs.Promises.{refused_if}

module _ (r : StandardRecord) (lent : List ℕ) where
  abbrev pub made : List ℕ
  made = block_of (shown lent (seen r))

  -- a number of what it shows is another
  pub unlike : (f : Shown → ℕ) → eqb (f (shown made (plain made))) (f (shown lent (seen r))) ≡ false → NoneGives r lent
  unlike f e = refused_if r lent (λ g. eqb-false _ _ e (ap f (same made r lent g)))

  -- it is refused
  abbrev pub is_accepted : Verdict → Bool
  is_accepted (Ok tt) = true
  is_accepted (Err f) = false

  pub unread : is_accepted (verdict_of made) ≡ false → NoneGives r lent
  unread e = refused_if r lent (λ g. true≢false (sym (ap is_accepted (sym (end_is_verdict made) ∙ g.accepted)) ∙ e))

-- the front porch, and the clock, of the first timing
abbrev pub porch : List HeldTiming → ℕ
porch [] = 0
porch (t ∷ ts) = t.timing.across.front.0

abbrev pub clock : List HeldTiming → ℕ
clock [] = 0
clock (t ∷ ts) = t.timing.clock

-- the width of the first pair's ratio
abbrev pub ratio : List HeldPair → ℕ
ratio [] = 0
ratio (p ∷ ps) = p.pair.ratio.width

-- the length of the first name, and the number of its slot
abbrev pub letters : List (ℕ × Words) → ℕ
letters [] = 0
letters ((n, serial t) ∷ ds) = 0
letters ((n, text t) ∷ ds) = 0
letters ((n, range l s) ∷ ds) = 0
letters ((n, name t) ∷ ds) = length t
letters ((n, undefined tag t) ∷ ds) = 0
letters ((n, maker_defined tag t) ∷ ds) = 0

abbrev pub number : List (ℕ × Words) → ℕ
number [] = 0
number (d ∷ ds) = d.0

-- the upper ends of the first range, and its lower ones: one number
abbrev pub ends : List (ℕ × Words) → ℕ
ends [] = 0
ends ((n, serial t) ∷ ds) = 0
ends ((n, text t) ∷ ds) = 0
ends ((n, range l s) ∷ ds) = l.vmin + l.vmax + l.hmin + l.hmax
ends ((n, name t) ∷ ds) = 0
ends ((n, undefined tag t) ∷ ds) = 0
ends ((n, maker_defined tag t) ∷ ds) = 0

-- a number for each week, input, size and kind
abbrev pub week_number : Week → ℕ
week_number (Made w) = w
week_number ModelYear = 256

abbrev pub depth_number : Depth → ℕ
depth_number Depth.Undefined = 0
depth_number (Depth.Bits n) = n
depth_number Depth.Reserved = 1

abbrev pub input_number : VideoInput → ℕ
input_number (Analog level setup sync) = 1
input_number (Digital dfp) = 2
input_number (Interface d code) = 3 + depth_number d + 256 * code

abbrev pub size_number : ImageSize → ℕ
size_number Image.None = 0
size_number (Image.Some z) = 1
size_number (Image.Ratio r) = r.width + 65536 * r.height

abbrev pub kind_number : Kind → ℕ
kind_number (Typed t) = 0
kind_number (Encodings a b) = 1

-- bytes, by a test of each
bytes_by : (s : List ℕ) → every (λ b. ltb b 256) s ≡ true → Bytes s
bytes_by [] h = λ i. omega arith
bytes_by (x ∷ s) h = go (ltb x 256) refl h (bytes_by s)
  where
    go : (z : Bool) → ltb x 256 ≡ z → cond z (every (λ b. ltb b 256) s) false ≡ true → (every (λ b. ltb b 256) s ≡ true → Bytes s) → Bytes (x ∷ s)
    go true e h rest = cons_bytes x s (ltb-true x 256 e) (rest h)
    go false e h rest = absurd (true≢false (sym h))

-- a block gives a record, by what is computed of it
pub gives : (b : List ℕ) (r : StandardRecord) (lent : List ℕ) → every (λ b. ltb b 256) b ≡ true → (standard_of b).end ≡ Ok tt → SpansInside (seen r).descriptors (length lent) → shown b (seen (standard_of b).edid) ≡ shown lent (seen r) → Gives b r lent
gives b r lent bytes accepted inside same = record { bytes = bytes_by b bytes; accepted = accepted; inside = inside; same = same }
