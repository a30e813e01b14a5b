-- What the code looks at: a slot that is not refused says a name exactly where it is no timing and its tag is fc.
use Rattle.std.specs.Prelude.{ℕ, ◌≡◌, Bool, ◌&&◌, ltb, Ok, None, Option, Some, Result, Err}
use Rattle.std.proofs.Math.Path.{refl}
use Rattle.std.proofs.Math.Bool.{true, false, cond}
use mathlib.Core.List.{List, [], ◌∷◌, ◌++◌}
use Rattle.std.proofs.Math.Dec.{eqb}
use Rattle.std.proofs.Common.{eqb-true}
use Rattle.bits.specs.Bytes.{◌!◌, part}
use Rattle.fixed.specs.Gather.{when}
use Rattle.steps.specs.declared.Span.{Span}
use Rattle.tags.specs.Tags.{tag_of}
use Rattle.tags.specs.declared.Tag.{Tag}
use Rattle.standard_record.specs.declared.DetailedTiming.{DetailedTiming}
use Rattle.standard_record.specs.declared.Descriptor.{Descriptor}
use Rattle.standard_timing.specs.Timing.{clock_in, timing_in}
use Rattle.standard_parts.specs.Descriptors.{closing_refusal, range_refusal}
use Rattle.standard_parts.specs.Text.{all_spaces}
use Rattle.standard_parts.specs.declared.Structure.{Structure}
use Rattle.standard_slots.specs.Said.{Said, refusal, nothing, timing, pairs, points, described, unless, pairs_in, points_in, text_in, range_in, padding_refusal, of_timed, by_tag, said}
use Rattle.standard_slots.specs.Each.{either}
use Rattle.standard_reading.specs.Slots.{judge}
use Rattle.naming.specs.Name.{is_named, first}

-- the text of a name
abbrev pub name_as : Descriptor → List Span
name_as (Descriptor.Serial t) = []
name_as (Descriptor.Text t) = []
name_as (Descriptor.Range l t) = []
name_as (Descriptor.Name t) = t ∷ []
name_as (Descriptor.Undefined tag d) = []
name_as (Descriptor.MakerDefined tag d) = []

-- the text found before, else the first of these
abbrev pub earlier : Option Span → List Span → Option Span
earlier (Some t) ts = Some t
earlier None ts = first ts

pub first_append : (ts us : List Span) → first (ts ++ us) ≡ earlier (first ts) us
first_append [] us = refl
first_append (t ∷ ts) us = refl

-- ---- by the tag

abbrev is_name : Tag → Bool
is_name Tag.Dummy = false
is_name Tag.Pairs = false
is_name Tag.Points = false
is_name Tag.Name = true
is_name Tag.Range = false
is_name Tag.Text = false
is_name Tag.Serial = false
is_name Tag.Raw = false

name_is_fc : (n : ℕ) → is_name (tag_of n) ≡ eqb n 0xfc
unfolding tag_of
name_is_fc n = go (eqb n 0xfc) refl
  where
    go : (b : Bool) → eqb n 0xfc ≡ b → is_name (tag_of n) ≡ b
    go true p = rw (eqb-true n 0xfc p) refl
    go false p =
        let no : Tag → Type 0 = λ x. is_name x ≡ false in
        rw p
        (either no (eqb n 0x10) refl
        (either no (eqb n 0xfa) refl
        (either no (eqb n 0xfb) refl
        (either no (eqb n 0xfd) refl
        (either no (eqb n 0xfe) refl
        (either no (eqb n 0xff) refl refl))))))

-- ---- what a slot says

abbrev pub names : Said → List Span
names (refusal n) = []
names nothing = []
names (timing d) = []
names (pairs ps) = []
names (points ws) = []
names (described d) = name_as d

module _ (σ : Structure) (t : List ℕ) (at : ℕ) where
  -- no name, also behind a test
  none : (r : Result Unit ℕ) (x : Said) → names x ≡ [] → names (unless r x) ≡ []
  none (Ok u) x h = h
  none (Err n) x h = refl

  abbrev padding : Result Unit ℕ
  padding = padding_refusal t (text_in t at).len

  by_tag_lem : (tag : Tag) → judge (by_tag σ tag t at) at ≡ Ok tt → names (by_tag σ tag t at) ≡ when (is_name tag) (text_in t at)
  unfolding range_in
  by_tag_lem Tag.Dummy e = refl
  by_tag_lem Tag.Pairs e = none (closing_refusal (t ! 17) true) (pairs (pairs_in σ t)) refl
  by_tag_lem Tag.Points e = none (closing_refusal (t ! 15) (all_spaces (part t 16 2))) (points (points_in t)) refl
  by_tag_lem Tag.Name e = go padding e
    where
      go : (r : Result Unit ℕ) → let x = unless r (described (Descriptor.Name (text_in t at))) in judge x at ≡ Ok tt → names x ≡ text_in t at ∷ []
      go (Ok u) e = refl
      go (Err n) e = cc
  by_tag_lem Tag.Range e = none (range_refusal (t ! 10) (t ! 11) (all_spaces (part t 12 6))) (described (range_in σ t at)) refl
  by_tag_lem Tag.Text e = none padding (described (Descriptor.Text (text_in t at))) refl
  by_tag_lem Tag.Serial e = none padding (described (Descriptor.Serial (text_in t at))) refl
  by_tag_lem Tag.Raw e = either (λ d. name_as d ≡ []) (ltb (t ! 3) 0x10) refl refl

  pub names_are : (i : ℕ) → judge (said σ i t at) at ≡ Ok tt → names (said σ i t at) ≡ when (is_named t) (text_in t at)
  unfolding said
  names_are i e = go (eqb (clock_in t) 0) (eqb i 0) (timing_in t) e
    where
      go : (z y : Bool) (x : Option DetailedTiming) → judge (cond z (cond y (refusal 3) (by_tag σ (tag_of (t ! 3)) t at)) (of_timed x)) at ≡ Ok tt
          → names (cond z (cond y (refusal 3) (by_tag σ (tag_of (t ! 3)) t at)) (of_timed x)) ≡ when (z && eqb (t ! 3) 0xfc) (text_in t at)
      go true true x e = cc
      go true false x e = rw (← name_is_fc) (by_tag_lem (tag_of (t ! 3)) e)
      go false y (Some d) e = refl
      go false y None e = refl
