-- A walk along the words of a line: where it stands, and that it goes on from word to word.
use Rattle.std.specs.Prelude.{ℕ, suc, ◌+◌, ◌-◌, ◌<◌, ◌≤◌, Bool, true, false, cond, List, [], ◌∷◌, ◌≡◌, refl, eqb, ltb, length, get_or, take, drop}
use Rattle.std.proofs.Common.{sym, ap, ◌∙◌, add-zero, arith, le-leb, eqb-true, length-drop, drop_of_length-le, drop-drop, get_or-drop}
use Rattle.std.proofs.Math.Nat.{add-sub_cancel_left}
use borrow.Author.Tests.{ltb-true, ltb-false, eq-eqb, ne_eqb}
use Rattle.std.proofs.lemmas.Bool.{lt-leb, eqb-false}
use Rattle.std.proofs.Math.ListN.{get_or-eq_default}
use Rattle.text_words.specs.Words.{is_blank, parts, turned, words, ◌word◌, last_word}
use Rattle.text_words.specs.Scan.{word_length, gap_length, behind, words_are, words_few}
use Rattle.text_words.specs.declared.Place.{Place}

-- the word from start to end is the one at index
pub record At (l : List ℕ) (start end index : ℕ) : Type 0 where
  pub here : drop index (words l) ≡ take (end - start) (drop start l) ∷ behind (drop end l)
  pub ordered : start ≤ end
  pub inside : end ≤ length l

-- that is at k, or before it where it is the last
pub record Walked (l : List ℕ) (k : ℕ) (r : Place) : Type 0 where
  pub at : At l r.start r.end r.index
  pub most : r.index ≤ k
  pub reached : r.index < k → r.end ≡ length l

-- ---- from word to word

cond_short : (t : Bool) (m n : ℕ) → m ≤ n → cond t 0 (suc m) ≤ suc n
cond_short true m n h = omega arith
cond_short false m n h = omega arith

word_short : (quoted : Bool) (s : List ℕ) → word_length quoted s ≤ length s
unfolding word_length
word_short quoted [] = omega arith
word_short quoted (b ∷ s) = cond_short (parts quoted b) _ _ (word_short (turned quoted b) s)

gap_short : (s : List ℕ) → gap_length s ≤ length s
unfolding gap_length
gap_short [] = omega arith
gap_short (b ∷ s) = go (is_blank b) (gap_short s)
  where
    go : (t : Bool) → gap_length s ≤ length s → cond t (suc (gap_length s)) 0 ≤ suc (length s)
    go true h = omega arith
    go false h = omega arith

behind_some : (t : List ℕ) → 0 < length t → behind t ≡ words (drop (gap_length t) t)
behind_some [] h = absurd (omega arith)
behind_some (b ∷ s) h = refl

module _ (l : List ℕ) where
  -- the word that begins at a start
  pub begun : (start index : ℕ) → start ≤ length l → drop index (words l) ≡ words (drop start l)
      → At l start (start + word_length false (drop start l)) index
  begun start index h e = record {
    here = e ∙ words_are false (drop start l) ∙ rw (drop-drop, add-sub_cancel_left);
    ordered = omega arith;
    inside = omega (arith, word_short false (drop start l), length-drop start l);
  }

  -- the next one
  module _ (start end index : ℕ) (a : At l start end index) (h : end < length l) where
    pub gap_inside : end + gap_length (drop end l) ≤ length l
    gap_inside = omega (arith, gap_short (drop end l), length-drop end l)

    pub next : drop (index + 1) (words l) ≡ words (drop (end + gap_length (drop end l)) l)
    next =
        sym (drop-drop 1 index (words l)) ∙ ap (drop 1) a.here
        ∙ behind_some (drop end l) (omega (arith, length-drop end l))
        ∙ ap words (drop-drop (gap_length (drop end l)) end l)

-- ---- what it tells

module _ (l : List ℕ) (start end index : ℕ) (a : At l start end index) where
  pub is_word : take (end - start) (drop start l) ≡ l word index
  is_word = sym (ap (λ ws. get_or ws 0 []) a.here) ∙ get_or-drop index (words l) 0 [] ∙ rw (add-zero index)

  count : length (words l) - index ≡ suc (length (behind (drop end l)))
  count = sym (length-drop index (words l)) ∙ ap length a.here

  ended : end ≡ length l → length (words l) ≡ suc index
  ended e = omega (arith, rw (drop_of_length-le l {i = end} (omega arith)) at count)

  pub none_behind : (k : ℕ) → index < k → end ≡ length l → l word k ≡ []
  none_behind k h e = get_or-eq_default (words l) [] (omega (arith, ended e))

  pub last_behind : (k : ℕ) → index ≤ k → end ≡ length l → last_word l k ≡ true
  last_behind k h e = le-leb (length (words l)) (suc k) (omega (arith, ended e))

  one_behind : (end ≡ length l → ⊥) → suc index < length (words l)
  one_behind e =
      let t = drop end l in
      let some = behind_some t (omega (arith, a.inside, length-drop end l)) ∙ words_are false _ in
      omega (arith, count, ap length some)

  more_behind : (end ≡ length l → ⊥) → last_word l index ≡ false
  more_behind e = lt-leb (length (words l)) (suc index) (one_behind e)

  pub last_is : eqb end (length l) ≡ last_word l index
  last_is = go (eqb end (length l)) refl
    where
      go : (t : Bool) → eqb end (length l) ≡ t → t ≡ last_word l index
      go true e = sym (last_behind index (omega arith) (eqb-true end (length l) e))
      go false e = sym (more_behind (eqb-false end (length l) e))

  -- it is the last one
  pub ends_here : eqb end (length l) ≡ eqb (length (words l)) (index + 1)
  ends_here = go (eqb end (length l)) refl
    where
      go : (t : Bool) → eqb end (length l) ≡ t → t ≡ eqb (length (words l)) (index + 1)
      go true e = sym (eq-eqb (length (words l)) (index + 1) (omega (arith, ended (eqb-true end (length l) e))))
      go false e = sym (ne_eqb (length (words l)) (index + 1) (λ z. omega (arith, z, one_behind (eqb-false end (length l) e))))

  pub ends_before : (k : ℕ) → index < k → end ≡ length l → eqb (length (words l)) (k + 1) ≡ false
  ends_before k h e = ne_eqb (length (words l)) (k + 1) (λ z. omega (arith, z, ended e))

-- a walk as far as there are bytes comes to the last word
pub all_walked : (l : List ℕ) (r : Place) → Walked l (length l) r → length (words l) ≡ r.index + 1
all_walked l r w = go (ltb r.index (length l)) refl
  where
    go : (t : Bool) → ltb r.index (length l) ≡ t → length (words l) ≡ r.index + 1
    go true h = omega (arith, ended l r.start r.end r.index w.at (w.reached (ltb-true r.index (length l) h)))
    go false h = omega (arith, count l r.start r.end r.index w.at, words_few false l, w.most, ltb-false r.index (length l) h)
