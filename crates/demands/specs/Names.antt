-- Worked cases of the name to show, computed: which block's text it is, where it begins and how long it is.
use Rattle.std.specs.Prelude.{ℕ, ◌≡◌, refl, List, [], ◌∷◌, ◌++◌, take, set, replicate}
use Rattle.bits.specs.Bytes.{part}
use Rattle.sums.specs.Joined.{checksum}
use Rattle.steps.specs.declared.Span.{Span}
use Rattle.timing.specs.Axis.{back_porch, across_of, down_of}
use Rattle.tags.specs.Tags.{tag_of}
use Rattle.standard_timing.specs.Timing.{timing_in}
use Rattle.standard_parts.specs.Descriptors.{closing_refusal}
use Rattle.standard_verdict.specs.Verdict.{before_slots}
use Rattle.standard_slots.specs.Said.{said}
use Rattle.standard_reading.specs.Slots.{judged}
use Rattle.naming.specs.Name.{name_of, shown_of, number_of, place_of, from}
use Rattle.naming.specs.declared.Shown.{Shown}
use Rattle.naming.specs.declared.Shown.TheVariants.{Panel, Reference, Neither}
use Rattle.demands.specs.Specimen.{specimen}

-- ---- the blocks

-- the specimen with these three slots behind its first, and its sum put right
abbrev with : List ℕ → List ℕ → List ℕ → List ℕ
with a b c = let front = take 72 specimen ++ a ++ b ++ c ++ 0 ∷ [] in front ++ checksum front ∷ []

-- a slot with this tag over 13 bytes: these, then 0x20
abbrev tagged : ℕ → List ℕ → List ℕ
tagged tag bytes = 0 ∷ 0 ∷ 0 ∷ tag ∷ 0 ∷ take 13 (bytes ++ replicate 13 0x20)

-- a name of four letters, of no bytes, of thirteen; a text that is no name; pairs that are not closed
abbrev lift : List ℕ
lift = tagged 0xfc (0x4c ∷ 0x49 ∷ 0x46 ∷ 0x54 ∷ 0x0a ∷ [])

abbrev empty : List ℕ
empty = tagged 0xfc (0x0a ∷ [])

abbrev full : List ℕ
full = tagged 0xfc (replicate 13 0x41)

abbrev other : List ℕ
other = tagged 0xfe (0x4c ∷ 0x49 ∷ 0x46 ∷ 0x54 ∷ 0x0a ∷ [])

abbrev unclosed : List ℕ
unclosed = tagged 0xfa (replicate 12 0x01)

abbrev nameless : List ℕ
nameless = with other other other

-- so many bytes from there on
abbrev at : ℕ → ℕ → Span
at start len = record { start = start; len = len }

-- ---- what is shown

pub record Case : Type 0 where
  pub panel : List ℕ
  pub reference : List ℕ
  pub shows : Shown
  pub number : ℕ
  pub bytes : List ℕ

abbrev shows : List ℕ → List ℕ → Shown → ℕ → List ℕ → Case
shows panel reference x number bytes = record { panel = panel; reference = reference; shows = x; number = number; bytes = bytes }

-- LOBBY, LIFT and thirteen times A
abbrev LOBBY : List ℕ
LOBBY = 0x4c ∷ 0x4f ∷ 0x42 ∷ 0x42 ∷ 0x59 ∷ []

abbrev LIFT : List ℕ
LIFT = 0x4c ∷ 0x49 ∷ 0x46 ∷ 0x54 ∷ []

unfoldable pub cases : List Case
cases =
    -- both named: the panel's
    shows specimen (with lift other other) (Panel (at 77 5)) 0 LOBBY ∷
    -- the panel's of length 0, and of 13
    shows (with other empty other) specimen (Panel (at 95 0)) 0 [] ∷
    shows (with other other full) specimen (Panel (at 113 13)) 0 (replicate 13 0x41) ∷
    -- only the reference
    shows nameless (with other other lift) (Reference (at 113 4)) 1 LIFT ∷
    shows [] specimen (Reference (at 77 5)) 1 LOBBY ∷
    -- a panel's block with a name inside, refused for its sum, for a slot behind the name, and for one before it
    shows (set specimen 127 0xc4) (with lift other other) (Reference (at 77 4)) 1 LIFT ∷
    shows (with lift lift unclosed) (with other empty other) (Reference (at 95 0)) 1 [] ∷
    shows (with unclosed lift lift) specimen (Reference (at 77 5)) 1 LOBBY ∷
    -- neither: no name, two refused blocks with names, no bytes
    shows nameless nameless Neither 18 [] ∷
    shows (with lift lift unclosed) (take 127 specimen) Neither 18 [] ∷
    shows [] [] Neither 18 [] ∷
    -- two fc slots: the first
    shows (with other lift full) nameless (Panel (at 95 4)) 0 LIFT ∷
    shows nameless (with empty other lift) (Reference (at 77 0)) 1 [] ∷
    []

infixr 4 ◌also◌
◌also◌ : {P Q : Type 0} → P → Q → P × Q
p also q = (p, q)

-- which text, its number, and its bytes
abbrev Holds : Case → Type 0
Holds c =
    let x = shown_of c.panel c.reference in
    (x ≡ c.shows) × (number_of x ≡ c.number) × (part (from x c.panel c.reference) (place_of x).start (place_of x).len ≡ c.bytes)

abbrev Hold : List Case → Type 0
Hold [] = Unit
Hold (c ∷ cs) = Holds c × Hold cs

pub names_shown : Hold cases
unfolding cases specimen name_of judged before_slots said timing_in across_of down_of back_porch tag_of closing_refusal
names_shown =
    (refl, refl, refl) also (refl, refl, refl) also (refl, refl, refl)
    also (refl, refl, refl) also (refl, refl, refl)
    also (refl, refl, refl) also (refl, refl, refl) also (refl, refl, refl)
    also (refl, refl, refl) also (refl, refl, refl) also (refl, refl, refl)
    also (refl, refl, refl) also (refl, refl, refl) also tt
