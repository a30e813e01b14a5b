-- A search along the lines of a text: what is left of it, and that it goes on from line to line.
use Prim.Native.Nat.{ℕ, zero, suc, ◌+◌, ◌-◌, ◌<◌, ◌≤◌}
use Rattle.std.specs.Prelude.{Bool, true, false, cond, List, [], ◌∷◌, ◌≡◌, refl, length, get_or, take, drop}
use Rattle.std.proofs.Common.{◌∙◌, add-suc, add-one, arith, length-drop, drop_of_length-le, drop-drop}
use Rattle.std.proofs.Math.Nat.{add-sub_cancel_left}
use Rattle.std.proofs.Math.Seq.{take-nil}
use Rattle.text_lines.specs.Lines.{is_idle, is_newline, lines, counted, number_from, content, line_number}
use Rattle.text_lines.specs.Scan.{line_length, lines_are}
use Rattle.text_lines.specs.declared.Place.{Place}

-- the line looked for is the one at left of these, which are numbered from n on
pub record Left (s : List ℕ) (k : ℕ) (ls : List (List ℕ)) (left n : ℕ) : Type 0 where
  pub line : get_or (counted ls) left [] ≡ content s k
  pub count : number_from n ls left ≡ line_number s k

pub record Found (s : List ℕ) (k : ℕ) (r : Place) : Type 0 where
  pub line : take (r.end - r.start) (drop r.start s) ≡ content s k
  pub count : r.number ≡ line_number s k
  pub ordered : r.start ≤ r.end
  pub inside : r.end ≤ length s

-- ---- a line in front of others

module _ (s : List ℕ) (k : ℕ) (l : List ℕ) (ls : List (List ℕ)) (n : ℕ) where
  idle_first : (left : ℕ) → is_idle l ≡ true → Left s k (l ∷ ls) left n → Left s k ls left (suc n)
  unfolding counted number_from
  idle_first zero e a = record { line = rw e at a.line; count = rw e at a.count }
  idle_first (suc left) e a = record { line = rw e at a.line; count = rw e at a.count }

  other_first : (left : ℕ) → is_idle l ≡ false → Left s k (l ∷ ls) (suc left) n → Left s k ls left (suc n)
  unfolding counted number_from
  other_first left e a = record { line = rw e at a.line; count = rw e at a.count }

  this_first : is_idle l ≡ false → Left s k (l ∷ ls) 0 n → (l ≡ content s k) × (n ≡ line_number s k)
  unfolding counted number_from
  this_first e a = (rw e at a.line, rw e at a.count)

-- ---- from line to line

line_short : (s : List ℕ) → line_length s ≤ length s
unfolding line_length
line_short [] = omega arith
line_short (b ∷ s) = go (is_newline b) (line_short s)
  where
    go : (t : Bool) → line_length s ≤ length s → cond t 0 (suc (line_length s)) ≤ suc (length s)
    go true h = omega arith
    go false h = omega arith

pub begun : (s : List ℕ) (k : ℕ) → Left s k (lines s) k 1
begun s k = record { line = refl; count = refl }

-- the line from at to end
module _ (s : List ℕ) (at end : ℕ) (h : at < length s) (e : end ≡ at + line_length (drop at s)) where
  pub inside : end ≤ length s
  inside = omega (arith, line_short (drop at s), length-drop at s)

  next : lines (drop at s) ≡ take (end - at) (drop at s) ∷ lines (drop (end + 1) s)
  next = lines_are (drop at s) (omega (arith, length-drop at s)) ∙ rw (e, add-sub_cancel_left, drop-drop, add-one, add-suc)

  module _ (k left n : ℕ) (a : Left s k (lines (drop at s)) left n) where
    pub passed : is_idle (take (end - at) (drop at s)) ≡ true → Left s k (lines (drop (end + 1) s)) left (n + 1)
    passed i = rw (add-one n) (idle_first s k _ _ n left i (rw next at a))

    pub counted_off : is_idle (take (end - at) (drop at s)) ≡ false → (left ≡ 0 → ⊥) → Left s k (lines (drop (end + 1) s)) (left - 1) (n + 1)
    counted_off i some =
        let more : left ≡ suc (left - 1) = omega arith in
        rw (add-one n) (other_first s k _ _ n (left - 1) i (rw (next, more) at a))

    pub reached : is_idle (take (end - at) (drop at s)) ≡ false → left ≡ 0 → Found s k (record { start = at; end = end; number = n })
    reached i none =
        let it = this_first s k _ _ n i (rw (next, none) at a) in
        record { line = it.0; count = it.1; ordered = omega arith; inside = inside }

pub over : (s : List ℕ) (k left n at : ℕ) → length s ≤ at → Left s k (lines (drop at s)) left n
    → Found s k (record { start = length s; end = length s; number = n })
unfolding lines counted number_from
over s k left n at h a =
    let none = rw (drop_of_length-le s {i = at} h) at a in
    record { line = rw (drop_of_length-le s {i = length s} (omega arith), take-nil) none.line; count = none.count; ordered = omega arith; inside = omega arith }
