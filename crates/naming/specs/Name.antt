-- The name to show: the first fc text of the panel's block, or, where it has none, that of the reference block.
use Rattle.std.specs.Prelude.{ℕ, ◌+◌, ◌≤◌, ◌≡◌, Bool, ◌&&◌, List, [], ◌∷◌, eqb, length, Ok, Err, None, Option, Some}
use Rattle.std.specs.Borrow.{Bor}
use Rattle.bits.specs.Bytes.{◌!◌, part}
use Rattle.fixed.specs.Gather.{gather, when}
use Rattle.steps.specs.declared.Span.{Span}
use Rattle.standard_record.specs.Verdict.{Verdict}
use Rattle.standard_timing.specs.Timing.{clock_in}
use Rattle.standard_slots.specs.Said.{text_in}
use Rattle.standard_reading.specs.Slots.{start, verdict_of}
use Rattle.naming.specs.declared.Shown.{Shown}
use Rattle.naming.specs.declared.Shown.TheVariants.{Panel, Reference, Neither}

-- ---- of one block

-- the 18 bytes of slot i
abbrev pub slot : List ℕ → ℕ → List ℕ
slot s i = part s (start i) 18

-- a slot holds a name: it is no timing, and its tag is fc
abbrev pub is_named : List ℕ → Bool
is_named t = eqb (clock_in t) 0 && eqb (t ! 3) 0xfc

-- the fc texts of the first n slots, in their order
abbrev pub texts_of : List ℕ → ℕ → List Span
texts_of s n = gather (λ i. when (is_named (slot s i)) (text_in (slot s i) (start i))) n

abbrev pub first : List Span → Option Span
first [] = None
first (t ∷ ts) = Some t

-- a block that the standard reading refuses counts as having no name
abbrev pub unless_refused : Verdict → Option Span → Option Span
unless_refused (Ok tt) name = name
unless_refused (Err f) name = None

unfoldable pub name_of : List ℕ → Option Span
name_of s = unless_refused (verdict_of s) (first (texts_of s 4))

-- ---- of two: the panel's, else the reference's

abbrev pub shown : Option Span → Option Span → Shown
shown (Some t) reference = Panel t
shown None (Some t) = Reference t
shown None None = Neither

abbrev pub shown_of : List ℕ → List ℕ → Shown
shown_of panel reference = shown (name_of panel) (name_of reference)

-- ---- the answers

abbrev pub number_of : Shown → ℕ
number_of (Panel t) = 0
number_of (Reference t) = 1
number_of Neither = 18

abbrev pub place_of : Shown → Span
place_of (Panel t) = t
place_of (Reference t) = t
place_of Neither = record { start = 0; len = 0 }

-- which of two
abbrev pub from : Shown → {A : Type 0} → A → A → A
from (Panel t) panel reference = panel
from (Reference t) panel reference = reference
from Neither panel reference = panel

-- r is the part t of the slice s, and no copy: it points into the same memory, as many bytes on
pub record IsPart (s : Bor (List ℕ)) (t : Span) (r : Bor (List ℕ)) : Type 0 where
  pub inside : t.start + t.len ≤ length s.now
  pub memory : r.ref_ptr.0 ≡ s.ref_ptr.0
  pub offset : r.ref_ptr.1 ≡ s.ref_ptr.1 + t.start
  pub bytes : r.now ≡ part s.now t.start t.len

abbrev pub IsShown : Bor (List ℕ) → Bor (List ℕ) → Shown → Bor (List ℕ) → Type 0
IsShown panel reference x r = IsPart (from x panel reference) (place_of x) r
