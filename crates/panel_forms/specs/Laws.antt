-- What the proofs of `panel_forms` use: forms and words one after the other.
use Rattle.std.specs.Prelude.{ℕ, suc, ◌+◌, ◌<◌, ◌≤◌, Bool, true, false, cond, List, [], ◌∷◌, ◌≡◌, refl, leb, length, get_or, drop}
use Rattle.std.proofs.Common.{ap, add-one, arith, le-leb, leb-true, leb-false, ne_eqb, drop_of_length-le, drop-cons}
use Rattle.std.proofs.lemmas.Bool.{lt-leb}
use Rattle.std.proofs.Math.Bool.{and-false}
use Rattle.std.proofs.Math.ListN.{get_or-eq_default}
use Rattle.text_words.specs.Words.{words, onto}
use Rattle.text_lines.specs.Lines.{is_newline, is_idle, lines, counted}
use Rattle.text_lines.specs.Laws.{counted_some}
use Rattle.text_kinds.specs.Kinds.{is_number, fits}
use Rattle.panel_forms.specs.Forms.{forms, is_line, any_of, all_bytes, bytes_behind}

-- ---- forms

module _ (fs : List (List ℕ)) (l : List ℕ) (k : ℕ) where
  pub any_hit : k < length fs → fits (words (get_or fs k [])) (words l) ≡ true → any_of (drop k fs) l ≡ true
  any_hit h e = rw (drop-cons fs k [] h, e)

  pub any_miss : k < length fs → fits (words (get_or fs k [])) (words l) ≡ false → any_of (drop k fs) l ≡ any_of (drop (k + 1) fs) l
  any_miss h e = rw (add-one, drop-cons fs k [] h, e)

  pub any_over : length fs ≤ k → any_of (drop k fs) l ≡ false
  any_over h = rw (drop_of_length-le fs {i = k} h)

-- a form that is empty is none
pub form_there : (fs : List (List ℕ)) (k : ℕ) → (length (get_or fs k []) ≡ 0 → ⊥) → k < length fs
form_there fs k h = go (leb (length fs) k) refl
  where
    go : (t : Bool) → leb (length fs) k ≡ t → k < length fs
    go true e = absurd (h (ap length (get_or-eq_default fs [] (leb-true (length fs) k e))))
    go false e = leb-false (length fs) k e

pub form_missing : (ls : List (List ℕ)) (k : ℕ) → length (get_or (counted ls) k []) ≡ 0 → length (counted ls) ≤ k
form_missing ls k h = go (leb (length (counted ls)) k) refl
  where
    go : (t : Bool) → leb (length (counted ls)) k ≡ t → length (counted ls) ≤ k
    go true e = leb-true (length (counted ls)) k e
    go false e = absurd (omega (arith, counted_some ls k (leb-false (length (counted ls)) k e)))

counted_few : (ls : List (List ℕ)) → length (counted ls) ≤ length ls
unfolding counted
counted_few [] = omega arith
counted_few (l ∷ ls) = go (is_idle l) (counted_few ls)
  where
    go : (t : Bool) → length (counted ls) ≤ length ls → length (cond t (counted ls) (l ∷ counted ls)) ≤ suc (length ls)
    go true h = omega arith
    go false h = omega arith

onto_few : (b : ℕ) (ls : List (List ℕ)) (n : ℕ) → length ls ≤ n → length (onto b ls) ≤ suc n
onto_few b [] n h = omega arith
onto_few b (l ∷ ls) n h = omega arith

lines_few : (s : List ℕ) → length (lines s) ≤ length s
unfolding lines
lines_few [] = omega arith
lines_few (b ∷ s) = go (is_newline b) (lines_few s)
  where
    go : (t : Bool) → length (lines s) ≤ length s → length (cond t ([] ∷ lines s) (onto b (lines s))) ≤ suc (length s)
    go true h = omega arith
    go false h = onto_few b (lines s) (length s) h

-- no more than there are bytes
pub forms_few : (s : List ℕ) → length (counted (lines s)) ≤ length s
forms_few s = omega (arith, counted_few (lines s), lines_few s)

-- ---- numbers behind the first word

module _ (ws : List (List ℕ)) (k : ℕ) where
  pub no_byte : k < length ws → is_number 255 (get_or ws k []) ≡ false → all_bytes (drop k ws) ≡ false
  no_byte h e = rw (drop-cons ws k [] h, e)

  pub byte_more : k < length ws → is_number 255 (get_or ws k []) ≡ true → all_bytes (drop k ws) ≡ all_bytes (drop (k + 1) ws)
  byte_more h e = rw (add-one, drop-cons ws k [] h, e)

  pub bytes_over : length ws ≤ k → all_bytes (drop k ws) ≡ true
  bytes_over h = rw (drop_of_length-le ws {i = k} h)

-- by the words behind the first
pub behind_is : (ws : List (List ℕ)) (t : Bool) → 0 < length ws → length ws ≤ 18 → all_bytes (drop 1 ws) ≡ t → bytes_behind ws ≡ t
behind_is [] t h i e = absurd (omega arith)
behind_is (w ∷ ws) t h i e = rw (le-leb (length ws) 17 (omega arith)) e

pub behind_not : (ws : List (List ℕ)) → 0 < length ws → all_bytes (drop 1 ws) ≡ false → bytes_behind ws ≡ false
behind_not [] h e = refl
behind_not (w ∷ ws) h e = rw e (and-false (leb (length ws) 17))

pub behind_long : (ws : List (List ℕ)) → 18 < length ws → bytes_behind ws ≡ false
behind_long [] h = refl
behind_long (w ∷ ws) h = rw (lt-leb (length ws) 17 (omega arith))

-- there are thirteen kinds
pub no_kind : (kind : ℕ) (l : List ℕ) → 13 ≤ kind → is_line kind l ≡ false
unfolding is_line lines counted
no_kind kind l h = rw (ne_eqb kind 8 (λ e. omega arith), get_or-eq_default forms [] h)
