-- The room that each part of the crate reading wants, its values aside; k bytes are left after it.
use Rattle.std.specs.Prelude.{ℕ, zero, suc, ◌+◌, ◌-◌, ◌||◌, ◌≡◌, refl, eqb, Option, Some, None}
use Rattle.std.proofs.Common.{sym, subst, le_refl, arith}
use Rattle.steps.specs.Steps.{Steps, done}
use Rattle.steps.specs.Leaves.{byte, word, long}
use Rattle.timing.specs.Axis.{across_of, down_of}
use Rattle.timing.specs.declared.Across.{Across}
use Rattle.timing.specs.declared.Down.{Down}
use Rattle.tags.specs.Tags.{tag_of}
use Rattle.tags.specs.declared.Tag.{Tag}
use Rattle.crate_record.specs.declared.WhitePoint.{WhitePoint}
use Rattle.crate_head.specs.Head.{header}
use Rattle.crate_text.specs.Text.{scan, padding, skip, span, text}
use Rattle.crate_detailed.specs.Detailed.{fitted, axes, timed, detailed}
use Rattle.crate_record.specs.declared.DetailedTiming.{DetailedTiming}
use Rattle.crate_descriptors.specs.Descriptors.{spaces, closing, point, ended, second, points, white, gtf, none, other, secondary, range, string, raw, by_tag, tagged, descriptor}
use Rattle.crate_descriptors.specs.Sizes.{left}
use Rattle.crate_descriptors.specs.declared.Points.{Points}
use Rattle.crate_descriptors.specs.declared.Points.TheVariants.{One, Two}
use Rattle.crate_descriptors.specs.declared.Slot.{Slot}
use Rattle.crate_descriptors.specs.declared.Slot.TheVariants.{Nothing, Described, White, Six}
use Rattle.crate_slots.specs.Slots.{said_by, said_first, said_later}
use Rattle.crate_end.specs.Ends.{bare, piece, pieces_from, ends}
use Rattle.crate_end.specs.Whole.{none_bare, six_bare}
use Rattle.crate_depth.specs.Room.{◌then◌, each, then_is, Room, room_more, room_then, room_cond, room_ensured}

-- ---- the header

room_word : (k : ℕ) → Room (λ _. k) (2 then k) word
unfolding word byte
room_word k = λ _ _. le_refl k

room_long : (k : ℕ) → Room (λ _. k) (4 then k) long
unfolding long word byte
room_long k = λ _ _ _ _. le_refl k

room_header : (k : ℕ) → Room (λ _. k) (8 then k) header
unfolding header
room_header k =
    room_then long _ (λ _. 4 then k) _ _ (room_long (4 then k)) (λ a. room_ensured (eqb a 0xffffff00) 2 _ _ _
    (room_then long _ (λ _. k) _ _ (room_long k) (λ b. room_ensured (eqb b 0x00ffffff) 2 _ _ _ (le_refl k))))

-- ---- texts

room_padding : (n k : ℕ) → Room (λ _. k) (n then k) (padding n)
unfolding padding byte
room_padding zero k = le_refl k
room_padding (suc n) k = λ b. room_ensured (eqb b 0x20) 5 _ _ _ (room_padding n k)

room_skip : (n k : ℕ) → Room (λ _. k) (n then k) (skip n)
unfolding skip byte
room_skip zero k = le_refl k
room_skip (suc n) k = λ b. room_skip n k

room_span : (n k : ℕ) → Room (λ _. k) (n then k) (span n)
unfolding span
room_span n k = λ start. room_then (skip n) _ (λ _. k) _ _ (room_skip n k) (λ _. le_refl k)

-- the padding that the answer's length gives is left
room_scan : (n i t k : ℕ) → i + n ≡ t + 1 → Room (λ a. (t - a) then k) (n then k) (scan n i)
unfolding scan byte
room_scan zero i t k e = omega (arith, then_is (t - i) k)
room_scan (suc n) i t k e =
    λ b. room_cond (eqb b 0x0a) (done i) (scan n (i + 1)) (λ a. (t - a) then k) (n then k) (omega (arith, then_is (t - i) k, then_is n k))
    (room_scan n (i + 1) t k (omega arith))

room_text : (k : ℕ) → Room (λ _. k) (13 then k) text
unfolding text
room_text k =
    λ start. room_then (scan 13 0) _ (λ a. (12 - a) then k) _ _ (room_scan 13 0 12 k refl)
    (λ a. room_then (padding (12 - a)) _ (λ _. k) _ _ (room_padding (12 - a) k) (λ _. le_refl k))

-- ---- a timing

room_fitted : (h : Option Across) (v : Option Down) (k : ℕ) → Room (λ _. k) k (fitted h v)
unfolding fitted
room_fitted None v k = tt
room_fitted (Some h) None k = tt
room_fitted (Some h) (Some v) k = le_refl k

room_axes : (ha k : ℕ) → Room (λ _. k) (9 then k) (axes ha)
unfolding axes byte
room_axes ha k = λ hb hh va vb vh ho hw vs hv. room_fitted (across_of ha hb hh ho hw hv) (down_of va vb vh vs hv) k

-- 15 bytes of a timing's 18 are left where there is none
abbrev spare : ℕ → Option DetailedTiming → ℕ
spare k None = 15 then k
spare k (Some t) = k

room_timed : (clock ha k : ℕ) → Room (spare k) (15 then k) (timed clock ha)
unfolding timed byte
room_timed clock ha k = room_then (axes ha) _ (λ _. 6 then k) _ _ (room_axes ha (6 then k)) (λ a _ _ _ _ _ _. le_refl k)

room_detailed : (k : ℕ) → Room (spare k) (18 then k) detailed
unfolding detailed byte
room_detailed k =
    room_then word _ (λ _. 16 then k) _ _ (room_word (16 then k))
    (λ clock ha. room_cond (eqb clock 0 || eqb ha 0) (done None) (timed clock ha) _ _ (le_refl (15 then k)) (room_timed clock ha k))

-- ---- a descriptor

room_spaces : (n k : ℕ) → Room (λ _. k) (each n 2 k) (spaces n)
unfolding spaces
room_spaces zero k = le_refl k
room_spaces (suc n) k =
    room_then word _ (λ _. each n 2 k) _ _ (room_word (each n 2 k)) (λ w. room_ensured (eqb w 0x2020) 5 _ _ _ (room_spaces n k))

room_closing : (n k : ℕ) → Room (λ _. k) (1 then each n 2 k) (closing n)
unfolding closing byte
room_closing n k = λ b. room_ensured (eqb b 0x0a) 4 _ _ _ (room_spaces n k)

room_point : (k : ℕ) → Room (λ _. k) (5 then k) point
unfolding point byte
room_point k = λ _ _ _ _ _. le_refl k

room_ended : (ps : Points) (k : ℕ) → Room (λ _. k) (5 then k) (ended ps)
unfolding ended
room_ended ps k = room_then (skip 5) _ (λ _. k) _ _ (room_skip 5 k) (λ _. le_refl k)

room_second : (p : WhitePoint) (k : ℕ) → Room (λ _. k) (10 then k) (second p)
unfolding second
room_second p k =
    room_then point _ (λ _. 5 then k) _ _ (room_point (5 then k)) (λ q. room_cond (eqb q.index 0) (ended (Two p q)) _ _ _ (room_ended (Two p q) k) (omega arith))

room_points : (k : ℕ) → Room (λ _. k) (15 then k) points
unfolding points
room_points k =
    room_then point _ (λ _. 10 then k) _ _ (room_point (10 then k))
    (λ p. room_cond (eqb p.index 0) (ended (One p)) (second p) _ _ (room_more (ended (One p)) _ (5 then k) _ (omega arith) (room_ended (One p) k)) (room_second p k))

room_secondary : (kind k : ℕ) → Room (λ _. k) (7 then k) (secondary kind)
unfolding secondary none gtf other word byte
room_secondary kind k =
    room_cond (eqb kind 0x00) none _ _ _ (room_then (closing 3) _ (λ _. k) _ _ (room_closing 3 k) (λ _. le_refl k))
    (room_cond (eqb kind 0x02) gtf (other kind) _ _ (λ b. room_ensured (eqb b 0x00) 4 _ _ _ (λ _ _ _ _ _ _. le_refl k))
    (room_then (span 7) _ (λ _. k) _ _ (room_span 7 k) (λ _. le_refl k)))

-- in n bytes, of which k are left behind those that `said_by` is to take
abbrev Fits : ℕ → ℕ → Steps Slot → Type 0
Fits k n p = Room (λ x. left x then k) (n then k) p

room_white : (k : ℕ) → Fits k 18 white
unfolding white
room_white k =
    room_then points _ (λ _. 3 then k) _ _ (room_points (3 then k)) (λ _. room_then (closing 1) _ (λ _. k) _ _ (room_closing 1 k) (λ _. omega arith))

room_range : (k : ℕ) → Fits k 18 range
unfolding range byte
room_range k = λ _ _ _ _ _ kind. room_then (secondary kind) _ (λ _. 5 then k) _ _ (room_secondary kind (5 then k)) (λ _. omega arith)

room_string : (tag k : ℕ) → Fits k 18 (string tag)
unfolding string
room_string tag k = room_then text _ (λ _. 5 then k) _ _ (room_text (5 then k)) (λ _. omega arith)

room_raw : (tag k : ℕ) → Fits k 18 (raw tag)
unfolding raw
room_raw tag k = room_then (span 13) _ (λ _. 5 then k) _ _ (room_span 13 (5 then k)) (λ _. omega arith)

room_tag : (tag k : ℕ) (t : Tag) → Fits k 18 (by_tag tag t)
room_tag tag k Tag.Dummy = omega arith
room_tag tag k Tag.Pairs = omega arith
room_tag tag k Tag.Points = room_white k
room_tag tag k Tag.Name = room_string tag k
room_tag tag k Tag.Range = room_range k
room_tag tag k Tag.Text = room_string tag k
room_tag tag k Tag.Serial = room_string tag k
room_tag tag k Tag.Raw = room_raw tag k

room_descriptor : (k : ℕ) → Fits k 20 descriptor
unfolding descriptor tagged byte
room_descriptor k = λ tag _. room_tag tag k (tag_of tag)

-- ---- the slots

room_by : (x : Slot) (k : ℕ) → Room (λ _. k) (left x then k) (bare (said_by x))
room_by Nothing k = omega arith
room_by (Described d) k = omega arith
room_by (White ps) k = omega arith
room_by Six k =
    subst (Room (λ _. k) (13 then k)) (sym six_bare)
    (room_then (skip 12) _ (λ _. 1 then k) _ _ (room_skip 12 (1 then k))
    (λ _. room_then (closing 0) _ (λ _. k) _ _ (room_closing 0 k) (λ _. le_refl k)))

-- 23 bytes: the 3 without a timing, and 20
room_later : (t : Option DetailedTiming) (k : ℕ) → Room (λ _. k) (spare (5 then k) t) (bare (said_later t))
room_later None k =
    subst (Room (λ _. k) (20 then k)) (sym none_bare) (room_then descriptor _ (λ x. left x then k) _ _ (room_descriptor k) (λ x. room_by x k))
room_later (Some t) k = omega arith

room_first : (t : Option DetailedTiming) (k : ℕ) → Room (λ _. k) (spare k t) (bare (said_first t))
room_first None k = tt
room_first (Some t) k = le_refl k

room_piece_0 : (k : ℕ) → Room (λ _. k) (54 then k) (piece 0)
unfolding piece
room_piece_0 k = room_then header _ (λ _. 46 then k) _ _ (room_header (46 then k)) (λ _. room_skip 46 k)

room_piece_1 : (k : ℕ) → Room (λ _. k) (18 then k) (piece 1)
unfolding piece
room_piece_1 k = room_then detailed _ (spare k) _ _ (room_detailed k) (λ t. room_first t k)

room_piece : (i k : ℕ) → Room (λ _. k) (23 then k) (piece (suc (suc i)))
unfolding piece
room_piece i k = room_then detailed _ (spare (5 then k)) _ _ (room_detailed (5 then k)) (λ t. room_later t k)

room_pieces : (n i k : ℕ) → Room (λ _. k) (each n 23 (1 then k)) (pieces_from n (suc (suc i)))
unfolding pieces_from
room_pieces zero i k = room_skip 1 k
room_pieces (suc n) i k =
    room_then (piece (suc (suc i))) _ (λ _. each n 23 (1 then k)) _ _ (room_piece i (each n 23 (1 then k))) (λ _. room_pieces n (suc i) k)

-- the header with 46 bytes, the first slot with 18, the three later ones with 23 each, and the count
pub room_ends : Room (λ _. 0) 142 ends
unfolding pieces_from
room_ends =
    room_then (piece 0) _ (λ _. 88) _ _ (room_piece_0 88)
    (λ _. room_then (piece 1) _ (λ _. 70) _ _ (room_piece_1 70) (λ _. room_pieces 3 0 0))
