-- The lines, and the parts of lines, that the listings of both readings have in common, byte for byte.
use Rattle.std.specs.Prelude.{ℕ, min, Bool, List, [], ◌∷◌, take, drop}
use Rattle.page.specs.Words.{text, space, newline, field, field32, field16, field8, flag, hex_of2, flat, each}
use Rattle.steps.specs.declared.Refusal.{Refusal}
use Rattle.steps.specs.declared.Span.{Span}
use Rattle.timing.specs.declared.Across.{Across}
use Rattle.timing.specs.declared.Down.{Down}
use Rattle.timing.specs.declared.Border.{Border}
use Rattle.timing.specs.declared.SyncPolarity.{SyncPolarity}
use Rattle.timing.specs.declared.SyncPolarity.TheVariants.{Positive, Negative}
use Rattle.timing.specs.declared.StereoType.{StereoType}
use Rattle.timing.specs.declared.StereoType.TheVariants as Stereo

-- ---- the head of a block

-- what follows the maker in the line of the product
unfoldable pub product_numbers : ℕ → ℕ → ℕ → ℕ → List ℕ
product_numbers code serial week year = flat (field16 code ∷ field32 serial ∷ field8 week ∷ field16 year ∷ newline ∷ [])

unfoldable pub version_line : ℕ → ℕ → List ℕ
version_line version revision = flat (text "version" ∷ field8 version ∷ field8 revision ∷ newline ∷ [])

-- what follows the levels of an analog input
unfoldable pub input_flags : Bool → Bool → Bool → Bool → Bool → List ℕ
input_flags setup serrated green composite separate =
    flat (flag setup ∷ flag serrated ∷ flag green ∷ flag composite ∷ flag separate ∷ newline ∷ [])

unfoldable pub digital_line : Bool → List ℕ
digital_line dfp = flat (text "digital" ∷ flag dfp ∷ newline ∷ [])

-- the fourth is the number of the display's type
unfoldable pub dpms_line : Bool → Bool → Bool → ℕ → Bool → Bool → Bool → List ℕ
dpms_line standby suspend lowpower kind srgb preferred gtf = flat (
    text "dpms" ∷ flag standby ∷ flag suspend ∷ flag lowpower ∷
    field8 kind ∷ flag srgb ∷ flag preferred ∷ flag gtf ∷
    newline ∷ [])

-- a length above the list's size counts as that size
unfoldable pub established_line : List ℕ → ℕ → List ℕ
established_line items len = flat (text "established" ∷ each field8 (take (min len 17) items) ∷ newline ∷ [])

-- ---- a detailed timing

-- its clock and its two axes
unfoldable pub axes : ℕ → Across → Down → List ℕ
axes clock a d = flat (
    text "detailed" ∷ field32 clock ∷
    field16 a.active.0 ∷ field16 d.active.0 ∷
    field16 a.front.0 ∷ field16 d.front.0 ∷
    field16 a.sync.0 ∷ field16 d.sync.0 ∷
    field16 a.back.0 ∷ field16 d.back.0 ∷ [])

-- the source's order
abbrev pub stereo : StereoType → ℕ
stereo Stereo.None = 0
stereo Stereo.SequentialRightSync = 1
stereo Stereo.SequentialLeftSync = 2
stereo Stereo.InterleavedLinesRightEven = 3
stereo Stereo.InterleavedLinesLeftEven = 4
stereo Stereo.Interleaved4Way = 5
stereo Stereo.SideBySide = 6

-- what stands between its size and its sync
unfoldable pub border_to_stereo : Border → Bool → StereoType → List ℕ
border_to_stereo b interlaced t = flat (field16 b.across.0 ∷ field16 b.down.0 ∷ flag interlaced ∷ field8 (stereo t) ∷ [])

unfoldable pub polarity : SyncPolarity → List ℕ
polarity Positive = text " 1"
polarity Negative = text " 0"

-- ---- a descriptor

-- a text, by its word, its start and its length; in the standard listing more follows in the line
unfoldable pub text_fields : List ℕ → Span → List ℕ
text_fields word d = flat (word ∷ field d.start ∷ field d.len ∷ [])

unfoldable pub text_line : List ℕ → Span → List ℕ
text_line word d = flat (text_fields word d ∷ newline ∷ [])

-- a tag or a kind, and a run of the input s in hexadecimal; a slot holds no run above 13 bytes, and no more are shown
unfoldable pub raw : List ℕ → ℕ → Span → List ℕ
raw s n d = flat (field8 n ∷ space ∷ each hex_of2 (take (min d.len 13) (drop d.start s)) ∷ [])

unfoldable pub raw_fields : List ℕ → List ℕ → ℕ → Span → List ℕ
raw_fields word s tag d = flat (word ∷ raw s tag d ∷ [])

unfoldable pub raw_line : List ℕ → List ℕ → ℕ → Span → List ℕ
raw_line word s tag d = flat (raw_fields word s tag d ∷ newline ∷ [])

-- the five numbers of a range, in the crate's listing
unfoldable pub limits : ℕ → ℕ → ℕ → ℕ → ℕ → List ℕ
limits vmin vmax hmin hmax clock = flat (text "range" ∷ field8 vmin ∷ field8 vmax ∷ field32 hmin ∷ field32 hmax ∷ field32 clock ∷ [])

-- ---- the end

unfoldable pub extensions_line : ℕ → List ℕ
extensions_line n = flat (text "extensions" ∷ field8 n ∷ newline ∷ [])

unfoldable pub refuse_line : Refusal → List ℕ
refuse_line f = flat (text "refuse" ∷ field8 f.number ∷ field f.at ∷ newline ∷ [])
