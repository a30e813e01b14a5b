-- Bytes gathered one after the other: how far, and what that comes to.
use Prim.Native.Nat.{ℕ, zero, suc, ◌+◌, ◌<◌, ◌≤◌}
use Rattle.std.specs.Prelude.{Bool, List, [], ◌∷◌, ◌++◌, ◌≡◌, refl, length, take, set}
use Rattle.std.proofs.Common.{append-nil, append_assoc, sym, ap, ap₂, ◌∙◌, add-one, arith, length-take, length-set, take-suc-set}
use Rattle.std.proofs.Math.Option.{Option, none, some}
use Rattle.std.specs.Prelude.{None, Some}
use Rattle.fixed.specs.Fixed.{pad, count, put, put_room, put_pad}
use Rattle.text_kinds.specs.Kinds.{byte, ends, wrong, piece, more, bytes_from}
use Rattle.text_kinds.specs.Answers.{kept_of}

-- ---- piece after piece

module _ (quoted : Bool) (s : List ℕ) where
  pub from_ends : (n : ℕ) → piece quoted s ≡ ends → bytes_from quoted n s ≡ some []
  unfolding bytes_from
  from_ends zero e = rw (e, bytes_from)
  from_ends (suc n) e = rw (e, bytes_from)

  from_wrong : (n : ℕ) → piece quoted s ≡ wrong → bytes_from quoted n s ≡ none
  unfolding bytes_from
  from_wrong zero e = rw (e, bytes_from)
  from_wrong (suc n) e = rw (e, bytes_from)

  module _ (b : ℕ) (t : List ℕ) (e : piece quoted s ≡ byte b t) where
    from_over : bytes_from quoted 0 s ≡ none
    unfolding bytes_from
    from_over = rw (e, bytes_from)

    pub from_byte : (n : ℕ) → bytes_from quoted (suc n) s ≡ more b (bytes_from quoted n t)
    unfolding bytes_from
    from_byte n = rw (e, bytes_from)

abbrev before : List ℕ → Option (List ℕ) → Option (List ℕ)
before xs none = none
before xs (some ys) = some (xs ++ ys)

before_more : (xs : List ℕ) (b : ℕ) (o : Option (List ℕ)) → before xs (more b o) ≡ before (xs ++ b ∷ []) o
before_more xs b none = refl
before_more xs b (some ys) = ap some (sym (append_assoc xs (b ∷ []) ys))

-- of the bytes from s on the first len are in the array, and at most n are left
pub record Gathered (quoted : Bool) (s bytes : List ℕ) (len n : ℕ) (left : List ℕ) : Type 0 where
  pub room : len + n ≡ 13
  pub padded : bytes ≡ pad 13 0 (take len bytes)
  pub size : length bytes ≡ 13
  pub is : bytes_from quoted 13 s ≡ before (take len bytes) (bytes_from quoted n left)

pub begun : (quoted : Bool) (s : List ℕ) → Gathered quoted s (0 ∷ 0 ∷ 0 ∷ 0 ∷ 0 ∷ 0 ∷ 0 ∷ 0 ∷ 0 ∷ 0 ∷ 0 ∷ 0 ∷ 0 ∷ []) 0 13 s
begun quoted s = record { room = refl; padded = refl; size = refl; is = go (bytes_from quoted 13 s) }
  where
    go : (o : Option (List ℕ)) → o ≡ before [] o
    go none = refl
    go (some ys) = refl

module _ (quoted : Bool) (s bytes : List ℕ) (len n : ℕ) (left : List ℕ) (g : Gathered quoted s bytes len n left) where
  long : length (take len bytes) ≡ len
  long = omega (arith, length-take len bytes, g.size, g.room)

  pub ended : piece quoted left ≡ ends → Some (record { bytes = bytes; len = len }) ≡ kept_of (bytes_from quoted 13 s)
  ended e =
      sym (ap kept_of (g.is ∙ ap (before (take len bytes)) (from_ends quoted left n e) ∙ ap some (append-nil (take len bytes)))
      ∙ (λ i. Some (record { bytes = sym g.padded i; len = long i })))

  pub refused : piece quoted left ≡ wrong → None ≡ kept_of (bytes_from quoted 13 s)
  refused e = sym (ap kept_of (g.is ∙ ap (before (take len bytes)) (from_wrong quoted left n e)))

count_all : (n : ℕ) (xs : List ℕ) → length xs ≤ n → count n xs ≡ length xs
count_all zero [] h = refl
count_all zero (x ∷ xs) h = absurd (omega arith)
count_all (suc n) [] h = refl
count_all (suc n) (x ∷ xs) h = ap suc (count_all n xs (omega arith))

-- a byte stored behind those that are there
pushed : (xs : List ℕ) (b : ℕ) → length xs < 13 → set (pad 13 0 xs) (length xs) b ≡ pad 13 0 (xs ++ b ∷ [])
pushed xs b h =
    sym (put_room 13 (pad 13 0 xs) (length xs) b h)
    ∙ ap (λ n. put 13 (pad 13 0 xs) n b) (sym (count_all 13 xs (omega arith)))
    ∙ put_pad 13 0 b xs

module _ (quoted : Bool) (s bytes : List ℕ) (len : ℕ) (left : List ℕ) (b : ℕ) (t : List ℕ) (e : piece quoted left ≡ byte b t) where
  pub too_many : Gathered quoted s bytes len 0 left → None ≡ kept_of (bytes_from quoted 13 s)
  too_many g = sym (ap kept_of (g.is ∙ ap (before (take len bytes)) (from_over quoted left b t e)))

  pub one_more : (n : ℕ) → Gathered quoted s bytes len (suc n) left → Gathered quoted s (set bytes len b) (len + 1) n t
  one_more n g =
      let h : len < length bytes = omega (arith, g.room, g.size) in
      let l = long quoted s bytes len (suc n) left g in
      let longer : take (len + 1) (set bytes len b) ≡ take len bytes ++ b ∷ [] = rw (add-one) (take-suc-set bytes len b h) in
      record {
        room = omega (arith, g.room);
        padded = ap₂ (λ bs n. set bs n b) g.padded (sym l) ∙ pushed (take len bytes) b (omega (arith, l, g.room)) ∙ ap (pad 13 0) (sym longer);
        size = length-set bytes len b ∙ g.size;
        is = g.is ∙ ap (before (take len bytes)) (from_byte quoted left b t e n) ∙ before_more (take len bytes) b (bytes_from quoted n t) ∙ ap (λ xs. before xs (bytes_from quoted n t)) (sym longer);
      }
