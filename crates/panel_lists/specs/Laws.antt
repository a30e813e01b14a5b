-- What the proofs of `panel_lists` use: an array filled element after element, and the lines that its elements are told by.
use Rattle.std.specs.Prelude.{ℕ, zero, suc, ◌+◌, ◌-◌, ◌*◌, ◌<◌, ◌≤◌, Bool, true, false, cond, ◌≡◌, refl, leb, ◌++◌, length, get_or, set, take, drop, replicate, Option, Some, None, min}
use mathlib.Core.List.{List, [], ◌∷◌}
use Rattle.std.proofs.Math.Option.{none, some}
use Rattle.std.proofs.Math.Option.{Option as Maybe}
use Rattle.std.specs.List.{slice_get}
use Rattle.std.specs.Option.{option_map, is_some, unwrap_or}
use Rattle.std.proofs.lemmas.List.{take_at}
use Rattle.std.proofs.Math.Seq.{take-add, drop-append-add}
use Rattle.std.proofs.lemmas.Option.{slice_get_past, slice_get-get_or}
use mathlib.Core.Bool.{true≢false}
use Rattle.std.proofs.Common.{sym, ap, ◌∙◌, zero-add, add-one, leb-true, leb-false, length-append, take-suc, take_all, get_or-take}
use native.Mathlib.Omega.{arith}
use Rattle.std.proofs.Math.ListN.{length-take, length-drop, length-map, get_or-map}
use Rattle.std.proofs.Math.Seq.{get_or-drop}
use Rattle.fixed.specs.Fixed.{pad, count}
use Rattle.fixed.specs.Gather.{Holds, took}
use Rattle.page.specs.Words.{each, text}
use Rattle.text_words.specs.Words.{words, ◌word◌, last_word}
use Rattle.text_lines.specs.Lines.{lines, counted, content}
use Rattle.text_lines.specs.Laws.{counted_some}
use Rattle.text_kinds.specs.Kinds.{number_of, text_of, run_of}
use Rattle.text_kinds.specs.Answers.{kept_of}
use Rattle.panel_front.specs.Front.{is_at}
use Rattle.panel_entries.specs.Entries.{kept_in, kept_places, held_of}
use Rattle.panel_lists.specs.Lists.{between, held_from, numbers_of}

-- ---- an array filled in a loop, whatever its elements and its size

-- at each place below n the element of xs is answered, and nothing where there is none
abbrev pub Gives : {A : Type 0} → (ℕ → Option A → Type 0) → ℕ → List A → Type 0
Gives {A} answered n xs = (i : ℕ) (r : Option A) → i < n → answered i r → r ≡ slice_get xs i

count_none : {A : Type 0} (n : ℕ) (xs : List A) → xs ≡ [] → 0 ≡ count n xs
count_none zero xs e = refl
count_none (suc n) xs e = rw e

module _ {A : Type 0} where
  -- the first i of xs are in the array
  pub record Filled (n : ℕ) (d : A) (xs items : List A) (i : ℕ) : Type 0 where
    pub holds : Holds n d (take i xs) items i

  pad_none : (n : ℕ) (d : A) → replicate n d ≡ pad n d []
  pad_none zero d = refl
  pad_none (suc n) d = ap (λ (l : List A). d ∷ l) (pad_none n d)

  pub empty : (n : ℕ) (d : A) (xs items : List A) → items ≡ replicate n d → Filled n d xs items 0
  empty n d xs items e = record { holds = record { are = e ∙ pad_none n d; many = count_none n [] refl } }

  pad_take : (n i : ℕ) (d : A) (xs : List A) → n ≤ i → pad n d (take i xs) ≡ pad n d xs
  pad_take zero i d xs h = refl
  pad_take (suc n) zero d xs h = absurd (omega arith)
  pad_take (suc n) (suc i) d [] h = refl
  pad_take (suc n) (suc i) d (x ∷ xs) h = ap (λ (l : List A). x ∷ l) (pad_take n i d xs (omega arith))

  count_take : (n i : ℕ) (xs : List A) → n ≤ i → count n (take i xs) ≡ count n xs
  count_take zero i xs h = refl
  count_take (suc n) zero xs h = absurd (omega arith)
  count_take (suc n) (suc i) [] h = refl
  count_take (suc n) (suc i) (x ∷ xs) h = ap suc (count_take n i xs (omega arith))

  module _ {n : ℕ} {d : A} {xs items : List A} {i : ℕ} (f : Filled n d xs items i) where
    -- one more
    pub turned : {v : A} (e : A) → i < n → i < length xs → v ≡ get_or xs i e → Filled n d xs (set items i v) (i + 1)
    turned e room there is = record { holds = rw (add-one i, take-suc xs i e there) (took f.holds (ap (λ (x : A). x ∷ []) (sym is)) room refl (sym (add-one i))) }

    -- no room for more
    pub full : n ≤ i → Holds n d xs items i
    full h = record { are = f.holds.are ∙ pad_take n i d xs h; many = f.holds.many ∙ count_take n i xs h }

    -- no more there
    pub over : length xs ≤ i → Holds n d xs items i
    over h = rw (take_all i xs h) at f.holds

-- ---- what a place is answered

pub there : {A : Type 0} (xs : List A) (i : ℕ) (x d : A) → Some x ≡ slice_get xs i → (i < length xs) × (x ≡ get_or xs i d)
there [] i x d e = absurd (true≢false (ap is_some e))
there (y ∷ xs) zero x d e = (omega arith, ap (λ (o : Option _). unwrap_or o d) e)
there (y ∷ xs) (suc i) x d e = let t = there xs i x d e in (omega (arith, t.0), t.1)

pub none_there : {A : Type 0} (xs : List A) (i : ℕ) → None ≡ slice_get xs i → length xs ≤ i
none_there [] i e = omega arith
none_there (x ∷ xs) zero e = absurd (true≢false (ap is_some (sym e)))
none_there (x ∷ xs) (suc i) e = omega (arith, none_there xs i e)

module _ {A : Type 0} {n : ℕ} {d : A} {xs items : List A} {i : ℕ} (f : Filled n d xs items i) where
  pub one_more : (x : A) → i < n → Some x ≡ slice_get xs i → Filled n d xs (set items i x) (i + 1)
  one_more x room e = let t = there xs i x d e in turned f d room t.0 t.1

  pub none_more : None ≡ slice_get xs i → Holds n d xs items i
  none_more e = over f (none_there xs i e)

-- ---- the lines between two places

-- what is not empty is there
line_there : (ls : List (List ℕ)) (i : ℕ) → (length (get_or ls i []) ≡ 0 → ⊥) → i < length ls
line_there [] i h = absurd (h refl)
line_there (l ∷ ls) zero h = omega arith
line_there (l ∷ ls) (suc i) h = omega (arith, line_there ls i h)

-- and what is there is not empty
line_not_there : (ls : List (List ℕ)) (i : ℕ) → length (get_or (counted ls) i []) ≡ 0 → length (counted ls) ≤ i
line_not_there ls i h = go (leb (length (counted ls)) i) refl
  where
    go : (t : Bool) → leb (length (counted ls)) i ≡ t → length (counted ls) ≤ i
    go true e = leb-true _ i e
    go false e = absurd (omega (arith, counted_some ls i (leb-false _ i e), h))

module _ (s : List ℕ) (from to i : ℕ) where
  long : length (between s from to) ≡ min (to - from) (length (counted (lines s)) - from)
  unfolding between
  long = length-take (to - from) (drop from (counted (lines s))) ∙ ap (min (to - from)) (length-drop from (counted (lines s)))

  pub line_past : to - from ≤ i → None ≡ slice_get (between s from to) i
  line_past h = sym (slice_get_past (between s from to) i (omega (arith, long)))

  pub line_missing : length (content s (from + i)) ≡ 0 → None ≡ slice_get (between s from to) i
  line_missing h = sym (slice_get_past (between s from to) i (omega (arith, long, line_not_there (lines s) (from + i) h)))

  pub line_at : i < to - from → get_or (between s from to) i [] ≡ content s (from + i)
  unfolding between
  line_at h = rw (get_or-take, get_or-drop)

  line_some : i < length (between s from to) → 0 < length (get_or (between s from to) i [])
  line_some h = rw (line_at (omega (arith, long))) (counted_some (lines s) (from + i) (omega (arith, long)))

  -- a line is empty where there are no more, and only there
  module _ {l : List ℕ} (is : l ≡ get_or (between s from to) i []) where
    pub more : (length l ≡ 0 → ⊥) → i < length (between s from to)
    more h = line_there (between s from to) i (rw is at h)

    pub no_more : length l ≡ 0 → length (between s from to) ≤ i
    no_more h = go (leb (length (between s from to)) i) refl
      where
        go : (t : Bool) → leb (length (between s from to)) i ≡ t → length (between s from to) ≤ i
        go true e = leb-true _ i e
        go false e = absurd (omega (arith, line_some (leb-false _ i e), rw is at h))

  pub line_told : i < to - from → (length (content s (from + i)) ≡ 0 → ⊥) → Some (content s (from + i)) ≡ slice_get (between s from to) i
  line_told h there = sym (slice_get-get_or (between s from to) i [] (more (sym (line_at h)) there) ∙ ap Some (line_at h))

-- ---- elements told by lines, each by its place too

held_behind : (at : ℕ) (ls : List (List ℕ)) (i : ℕ) → slice_get (held_from at ls) i ≡ option_map (λ l. held_of l (at + 13 * i)) (slice_get ls i)
unfolding held_from
held_behind at [] i = refl
held_behind at (l ∷ ls) zero = let e : at + 13 * 0 ≡ at = omega arith in rw e
held_behind at (l ∷ ls) (suc i) = let e : at + 13 * suc i ≡ at + 13 + 13 * i = omega arith in rw e (held_behind (at + 13) ls i)

pub held_at : (ls : List (List ℕ)) (i : ℕ) → slice_get (held_from 0 ls) i ≡ option_map (λ l. held_of l (13 * i)) (slice_get ls i)
held_at ls i = rw zero-add at (held_behind 0 ls i)

-- ---- bytes told by lines, thirteen by each

pad_long : (n d : ℕ) (xs : List ℕ) → length (pad n d xs) ≡ n
pad_long zero d xs = refl
pad_long (suc n) d [] = ap suc (pad_long n d [])
pad_long (suc n) d (x ∷ xs) = ap suc (pad_long n d xs)

option_long : (o : Maybe (List ℕ)) → length (kept_places (kept_of o)) ≡ 13
option_long none = refl
option_long (some bs) = pad_long 13 0 bs

kept_long : (l : List ℕ) → length (kept_places (kept_in l)) ≡ 13
unfolding kept_in
kept_long l = go (is_at l 0 (text "undefined")) (is_at l 0 (text "maker")) (is_at l 6 (text "other")) (run_of (l word 2)) (run_of (l word 8)) (text_of (l word 1))
  where
    go : (a b c : Bool) (x y z : Maybe (List ℕ)) → length (kept_places (cond a (kept_of x) (cond b (kept_of x) (cond c (kept_of y) (kept_of z))))) ≡ 13
    go true b c x y z = option_long x
    go false true c x y z = option_long x
    go false false true x y z = option_long y
    go false false false x y z = option_long z

-- of all, one after the other
abbrev pub all_bytes : List (List ℕ) → List ℕ
all_bytes ls = each (λ l. kept_places (kept_in l)) ls

all_long : (ls : List (List ℕ)) → length (all_bytes ls) ≡ 13 * length ls
unfolding each
all_long [] = refl
all_long (l ∷ ls) = omega (arith, length-append (kept_places (kept_in l)) (all_bytes ls), kept_long l, all_long ls)

-- those of the line at i
part_at : (ls : List (List ℕ)) (i : ℕ) → i < length ls → take 13 (drop (13 * i) (all_bytes ls)) ≡ kept_places (kept_in (get_or ls i []))
unfolding each
part_at [] i h = absurd (omega arith)
part_at (l ∷ ls) zero h = take_at (kept_places (kept_in l)) (all_bytes ls) 13 (kept_long l)
part_at (l ∷ ls) (suc i) h =
    let e : 13 * suc i ≡ length (kept_places (kept_in l)) + 13 * i = omega (arith, kept_long l) in
    rw (e, drop-append-add) (part_at ls i (omega arith))

count_all : (n : ℕ) (xs : List ℕ) → length xs ≤ n → count n xs ≡ length xs
count_all zero [] h = refl
count_all zero (x ∷ xs) h = absurd (omega arith)
count_all (suc n) [] h = refl
count_all (suc n) (x ∷ xs) h = ap suc (count_all n xs (omega arith))

-- a part stored behind the first of an array
blank_behind : (n d : ℕ) (p : List ℕ) → length p ≤ n → p ++ drop (length p) (pad n d []) ≡ pad n d p
blank_behind n d [] h = refl
blank_behind zero d (x ∷ p) h = absurd (omega arith)
blank_behind (suc n) d (x ∷ p) h = ap (λ (l : List ℕ). x ∷ l) (blank_behind n d p (omega arith))

stored : (n d : ℕ) (t p : List ℕ) → length t + length p ≤ n → take (length t) (pad n d t) ++ (p ++ drop (length p) (drop (length t) (pad n d t))) ≡ pad n d (t ++ p)
stored n d [] p h = blank_behind n d p (omega arith)
stored zero d (x ∷ t) p h = absurd (omega arith)
stored (suc n) d (x ∷ t) p h = ap (λ (l : List ℕ). x ∷ l) (stored n d t p (omega arith))

-- a turn of the loop, by the code's line
module _ (ls : List (List ℕ)) (i : ℕ) {n : ℕ} {places : List ℕ} where
  pub laid : (l : List ℕ) → Some l ≡ slice_get ls i → Filled n 0 (all_bytes ls) places (13 * i) → 13 * i + 13 ≤ n
      → Filled n 0 (all_bytes ls) (take (13 * i) places ++ (kept_places (kept_in l) ++ drop 13 (drop (13 * i) places))) (13 * (i + 1))
  laid l is f room =
      let xs = all_bytes ls in
      let p = kept_places (kept_in l) in
      let t = there ls i l [] is in
      let long : length (take (13 * i) xs) ≡ 13 * i = omega (arith, length-take (13 * i) xs, all_long ls, t.0) in
      let whole : length (take (13 * (i + 1)) xs) ≡ 13 * (i + 1) = omega (arith, length-take (13 * (i + 1)) xs, all_long ls, t.0) in
      let e : 13 * (i + 1) ≡ 13 * i + 13 = omega arith in
      let part : take 13 (drop (13 * i) xs) ≡ p = rw t.1 (part_at ls i t.0) in
      let all : take (13 * i) xs ++ p ≡ take (13 * (i + 1)) xs = rw (e, ← part) (sym (take-add (13 * i) 13 xs)) in
      let in_array = rw (long, kept_long l) at (stored n 0 (take (13 * i) xs) p (omega (arith, long, kept_long l, room))) in
      record {
        holds = record {
          are = rw f.holds.are (in_array ∙ ap (pad n 0) all);
          many = sym (count_all n (take (13 * (i + 1)) xs) (omega (arith, whole, room)) ∙ whole);
        };
      }

  pub all_laid : Filled n 0 (all_bytes ls) places (13 * i) → None ≡ slice_get ls i → Holds n 0 (all_bytes ls) places (13 * i)
  all_laid f e = over f (omega (arith, all_long ls, none_there ls i e))

-- ---- numbers told by the words behind the first

module _ (l : List ℕ) (i : ℕ) where
  long_numbers : length (numbers_of l) ≡ length (words l) - 1
  unfolding numbers_of
  long_numbers = length-map (drop 1 (words l)) (number_of 255) ∙ length-drop 1 (words l)

  pub number_at : get_or (numbers_of l) i (number_of 255 []) ≡ number_of 255 (l word (i + 1))
  unfolding numbers_of
  number_at = let e : 1 + i ≡ i + 1 = omega arith in rw (get_or-map (number_of 255) (drop 1 (words l)) i [], get_or-drop, e)

  pub number_there : last_word l i ≡ false → i < length (numbers_of l)
  number_there h = omega (arith, long_numbers, leb-false (length (words l)) (suc i) h)

  pub number_told : last_word l i ≡ false → Some (number_of 255 (l word (i + 1))) ≡ slice_get (numbers_of l) i
  number_told h = sym (slice_get-get_or (numbers_of l) i (number_of 255 []) (number_there h) ∙ ap Some number_at)

  pub numbers_over : last_word l i ≡ true → None ≡ slice_get (numbers_of l) i
  numbers_over h = sym (slice_get_past (numbers_of l) i (omega (arith, long_numbers, leb-true (length (words l)) (suc i) h)))
