-- How many bytes a descriptor takes where it is accepted, the six pairs of an fa slot included: 15, of tag 10 but 2, and of some white points 20.
use Rattle.std.specs.Prelude.{ℕ, zero, suc, ◌+◌, ◌*◌, ◌≤◌, ◌≡◌, refl, Bool, true, false, cond, not, ◌&&◌, eqb}
use Rattle.std.proofs.Common.{sym, ap, subst, arith, eqb-true}
use Rattle.steps.specs.Steps.{Steps, done}
use Rattle.steps.specs.Leaves.{byte, word}
use Rattle.steps.specs.Answers.{Ends, ends_map, ends_then, ends_cond, Takes, no_byte, takes_then, takes_ensured, takes_looser, takes_byte, takes_word}
use Rattle.tags.specs.Tags.{tag_of}
use Rattle.tags.specs.declared.Tag.{Tag}
use Rattle.crate_record.specs.declared.WhitePoint.{WhitePoint}
use Rattle.crate_text.specs.Text.{skip, span, text}
use Rattle.crate_text.specs.Sizes.{takes_span, takes_text}
use Rattle.crate_descriptors.specs.declared.Points.{Points}
use Rattle.crate_descriptors.specs.declared.Points.TheVariants.{One, Two}
use Rattle.crate_descriptors.specs.declared.Slot.{Slot}
use Rattle.crate_descriptors.specs.declared.Slot.TheVariants.{Nothing, Described, White, Six}
use Rattle.crate_descriptors.specs.Descriptors.{spaces, closing, point, ended, second, points, white, gtf, none, other, secondary, range, string, raw, by_tag, tagged}

-- 1 for true
abbrev pub one : Bool → ℕ
one true = 1
one false = 0

-- ---- the parts

takes_spaces : (n : ℕ) → Takes (n * 2) (n * 2) (spaces n)
unfolding spaces
takes_spaces zero = no_byte
takes_spaces (suc n) =
    takes_looser (spaces (suc n)) (2 + n * 2) (2 + n * 2) (suc n * 2) (suc n * 2) (omega arith) (omega arith)
    (takes_then word _ 2 2 (n * 2) (n * 2) takes_word (λ w. takes_ensured (eqb w 0x2020) 5 _ (n * 2) (n * 2) (omega arith, omega arith) (takes_spaces n)))

pub takes_closing : (n : ℕ) → Takes (1 + n * 2) (1 + n * 2) (closing n)
unfolding closing
takes_closing n =
    takes_then byte _ 1 1 (n * 2) (n * 2) takes_byte (λ b. takes_ensured (eqb b 0x0a) 4 _ (n * 2) (n * 2) (omega arith, omega arith) (takes_spaces n))

takes_point : Takes 5 5 point
unfolding point byte
takes_point = λ index low x y g. (omega arith, omega arith)

-- a first index that is not zero, and a second that is: five bytes are skipped then after the two points
abbrev pub longer : Points → Bool
longer (One p) = false
longer (Two p q) = not (eqb p.index 0) && eqb q.index 0

longer_two : (p q : WhitePoint) {t : Bool} → eqb p.index 0 ≡ false → eqb q.index 0 ≡ t → longer (Two p q) ≡ t
longer_two p q e h = rw (e, h)

ends_if : {A : Type 0} (t : Bool) (p q : Steps A) (Q : A → ℕ → Type 0) → (t ≡ true → Ends Q p) → (t ≡ false → Ends Q q) → Ends Q (cond t p q)
ends_if true p q Q e h = e refl
ends_if false p q Q e h = h refl

exact_second : (p : WhitePoint) → eqb p.index 0 ≡ false → Ends (λ ps m. m ≡ 5 + 5 * one (longer ps)) (second p)
unfolding second ended skip byte
exact_second p e =
    ends_then point _ (λ q m. (5 ≤ m) × (m ≤ 5)) _ takes_point
    (λ q m r. ends_if (eqb q.index 0) (ended (Two p q)) (done (Two p q)) (λ ps k. m + k ≡ 5 + 5 * one (longer ps))
    (λ t _ _ _ _ _. omega (arith, ap one (longer_two p q e t))) (λ t. omega (arith, ap one (longer_two p q e t))))

exact_points : Ends (λ ps m. m ≡ 10 + 5 * one (longer ps)) points
unfolding points ended skip byte
exact_points =
    ends_then point _ (λ p m. (5 ≤ m) × (m ≤ 5)) _ takes_point
    (λ p m r. ends_if (eqb p.index 0) (ended (One p)) (second p) (λ ps k. m + k ≡ 10 + 5 * one (longer ps)) (λ t _ _ _ _ _. omega arith)
    (λ t. ends_map (second p) (λ ps k. k ≡ 5 + 5 * one (longer ps)) (λ ps k. m + k ≡ 10 + 5 * one (longer ps)) (λ ps k q. omega arith)
    (exact_second p t)))

takes_gtf : Takes 7 7 gtf
unfolding gtf
takes_gtf =
    takes_then byte _ 1 1 6 6 takes_byte
    (λ b. takes_ensured (eqb b 0x00) 4 _ 6 6 (omega arith, omega arith)
    (takes_then byte _ 1 1 5 5 takes_byte
    (λ start. takes_then byte _ 1 1 4 4 takes_byte
    (λ c. takes_then word _ 2 2 2 2 takes_word
    (λ m. takes_then byte _ 1 1 1 1 takes_byte (λ k. takes_then byte _ 1 1 0 0 takes_byte (λ j. no_byte)))))))

takes_none : Takes 7 7 none
unfolding none
takes_none = takes_then (closing 3) _ 7 7 0 0 (takes_closing 3) (λ _. no_byte)

takes_other : (kind : ℕ) → Takes 7 7 (other kind)
unfolding other
takes_other kind = takes_then (span 7) _ 7 7 0 0 (takes_span 7) (λ d. no_byte)

takes_secondary : (kind : ℕ) → Takes 7 7 (secondary kind)
unfolding secondary
takes_secondary kind =
    ends_cond (eqb kind 0x00) _ _ _ takes_none (ends_cond (eqb kind 0x02) _ _ _ takes_gtf (takes_other kind))

-- ---- the descriptor

-- the bytes that are left to be taken
abbrev pub left : Slot → ℕ
left Nothing = 0
left (Described d) = 0
left (White ps) = 0
left Six = 13

-- the bytes of a descriptor, those that are left included
abbrev pub size : Slot → ℕ
size Nothing = 2
size (Described d) = 15
size (White ps) = 15 + 5 * one (longer ps)
size Six = 15

-- what it says with this tag: nothing with tag 10 and no other, points with fb and no other
abbrev pub is_nothing : Slot → Bool
is_nothing Nothing = true
is_nothing (Described d) = false
is_nothing (White ps) = false
is_nothing Six = false

abbrev pub is_white : Slot → Bool
is_white Nothing = false
is_white (Described d) = false
is_white (White ps) = true
is_white Six = false

abbrev pub Says : ℕ → Bool → Bool → Type 0
Says tag nothing points = (nothing ≡ eqb tag 0x10) × (points ≡ eqb tag 0xfb)

-- and in how many bytes, with the tag and the byte after it
abbrev pub Tagged : ℕ → Slot → ℕ → Type 0
Tagged tag x m = Says tag (is_nothing x) (is_white x) × (2 + m + left x ≡ size x)

tagged_white : (tag : ℕ) → Says tag false true → Ends (Tagged tag) white
unfolding white
tagged_white tag t =
    ends_then points _ (λ ps m. m ≡ 10 + 5 * one (longer ps)) _ exact_points
    (λ ps m e. ends_then (closing 1) _ (λ _ k. (3 ≤ k) × (k ≤ 3)) _ (takes_closing 1) (λ _ k q. (t, omega arith)))

tagged_range : (tag : ℕ) → Says tag false false → Ends (Tagged tag) range
unfolding range byte
tagged_range tag t =
    λ vmin vmax hmin hmax clock kind.
    ends_then (secondary kind) _ (λ _ m. (7 ≤ m) × (m ≤ 7)) _ (takes_secondary kind) (λ _ m q. (t, omega arith))

tagged_string : (tag : ℕ) → Says tag false false → Ends (Tagged tag) (string tag)
unfolding string
tagged_string tag t = ends_then text _ (λ _ m. (13 ≤ m) × (m ≤ 13)) _ takes_text (λ _ m q. (t, omega arith))

tagged_raw : (tag : ℕ) → Says tag false false → Ends (Tagged tag) (raw tag)
unfolding raw
tagged_raw tag t = ends_then (span 13) _ (λ _ m. (13 ≤ m) × (m ≤ 13)) _ (takes_span 13) (λ _ m q. (t, omega arith))

-- neither 10 nor fb: by the other tests, in their order
tagged_other : (tag : ℕ) → Says tag false false → (fa fc fd fe ff : Bool)
    → Ends (Tagged tag)
    (by_tag tag (cond fa Tag.Pairs (cond false Tag.Points (cond fc Tag.Name (cond fd Tag.Range (cond fe Tag.Text (cond ff Tag.Serial Tag.Raw)))))))
tagged_other tag t true fc fd fe ff = (t, omega arith)
tagged_other tag t false true fd fe ff = tagged_string tag t
tagged_other tag t false false true fe ff = tagged_range tag t
tagged_other tag t false false false true ff = tagged_string tag t
tagged_other tag t false false false false true = tagged_string tag t
tagged_other tag t false false false false false = tagged_raw tag t

pub ends_tagged : (tag : ℕ) → Ends (Tagged tag) (tagged tag)
unfolding tagged tag_of
ends_tagged tag = tagged_by tag (eqb tag 0x10) (eqb tag 0xfb) refl refl
  where
    tagged_by : (tag : ℕ) (ten fb : Bool) → eqb tag 0x10 ≡ ten → eqb tag 0xfb ≡ fb → Ends (Tagged tag) (tagged tag)
    tagged_by tag true fb e f = subst (λ (k : ℕ). Ends (Tagged k) (tagged k)) (sym (eqb-true tag 0x10 e)) ((refl, refl), omega arith)
    tagged_by tag false true e f = subst (λ (k : ℕ). Ends (Tagged k) (tagged k)) (sym (eqb-true tag 0xfb f)) (tagged_white 0xfb (refl, refl))
    tagged_by tag false false e f =
        rw (e, f) (tagged_other tag (sym e, sym f) (eqb tag 0xfa) (eqb tag 0xfc) (eqb tag 0xfd) (eqb tag 0xfe) (eqb tag 0xff))
