-- Sums of parts, of the code's answers: what callers of `sums::byte_sum` and of the exported `edid_sum_is_zero` learn of a block and of its parts.
use Rattle.std.specs.Prelude.{ℕ, ◌<◌, Bool, true, ◌≡◌, refl, eqb, length, get_or, set, take, drop}
use Rattle.std.proofs.Common.{sym, ap, ap₂, ◌∙◌, take-append-drop}
use mathlib.Core.List.{List, [], ◌∷◌, ◌++◌, map, foldl, flatten, Forall₂}
use contract.Lifetimes.{Lfts}
use Rattle.std.specs.Borrow.{Bor}
use Rattle.sums.specs.Sum.{byte_sum}
use Rattle.sums.specs.Joined.{plus, minus, checksum, empty, joined, checksum_makes_zero}
use Rattle.sums.proofs.Joined.{shifted, sum_of_parts}
use Rattle.sums.proofs.byte_sum.Reads as byte_sum_call
use Rattle.exports.proofs.edid_sum_is_zero.Reads as sum_is_zero
use Rattle.demands.specs.Specimen.{specimen}

-- one slice, as a call is handed it
abbrev pub Slice : Type 0
Slice = Bor (List ℕ) × Unit {0}

-- an answer r, by a function's contract: a call on some slice that holds the bytes s may be made, and this is what the caller learns of it
abbrev pub Answers : {R : Type 0} → (Lfts 1 → Slice → Type 0) → (Lfts 1 → Slice → R → Slice → Type 0) → List ℕ → R → Type 0
Answers asked learnt s r = (κs : Lfts 1) × (slice : Bor (List ℕ)) × (slice.now ≡ s) × asked κs (slice, tt) × learnt κs (slice, tt) r (slice, tt)

abbrev pub ByteSum : List ℕ → ℕ → Type 0
ByteSum = Answers byte_sum_call.Asked byte_sum_call.Learnt

abbrev pub SumIsZero : List ℕ → Bool → Type 0
SumIsZero = Answers sum_is_zero.Asked sum_is_zero.Learnt

-- of every list there are such answers, and no others than these
pub answered : (s : List ℕ) → ByteSum s (byte_sum s) × SumIsZero s (eqb (byte_sum s) 0)
answered s = let slice : Bor (List ℕ) = record { ref_ptr = (0, 0); now = s } in ((([], tt), slice, refl, tt, refl), (([], tt), slice, refl, tt, refl))

pub is_sum : {s : List ℕ} {r : ℕ} → ByteSum s r → r ≡ byte_sum s
is_sum (κs, slice, e, _, l) = l ∙ ap byte_sum e

pub is_zero : {s : List ℕ} {z : Bool} → SumIsZero s z → z ≡ eqb (byte_sum s) 0
is_zero (κs, slice, e, _, l) = l ∙ ap (λ (s : List ℕ). eqb (byte_sum s) 0) e

-- ---- the three laws

pub of_none : {r : ℕ} → ByteSum [] r → r ≡ 0
of_none h = is_sum h ∙ empty

-- at any cut the answers of the two parts, added wrapping, are that of the block; and `edid_sum_is_zero` says whether that is 0
pub at_a_cut : (s : List ℕ) (k : ℕ) {r a b : ℕ} → ByteSum s r → ByteSum (take k s) a → ByteSum (drop k s) b → r ≡ plus a b
at_a_cut s k h ha hb = rw (is_sum h, is_sum ha, is_sum hb, sym (joined (take k s) (drop k s)), take-append-drop k s)

pub zero_at_a_cut : (s : List ℕ) (k : ℕ) {z : Bool} {a b : ℕ} → SumIsZero s z → ByteSum (take k s) a → ByteSum (drop k s) b → z ≡ eqb (plus a b) 0
zero_at_a_cut s k h ha hb = is_zero h ∙ ap (λ (n : ℕ). eqb n 0) (at_a_cut s k (answered s).0 ha hb)

pub of_one_changed : (s : List ℕ) (i new : ℕ) {r r' : ℕ} → i < length s → ByteSum s r → ByteSum (set s i new) r'
    → r' ≡ plus r (minus new (get_or s i 0))
of_one_changed s i new n h h' = rw (is_sum h, is_sum h') (shifted s i new n)

-- ---- any number of parts ps, with xs their answers, added one after the other

are_sums : {ps : List (List ℕ)} {xs : List ℕ} → Forall₂ ByteSum ps xs → xs ≡ map byte_sum ps
are_sums Forall₂.nil = refl
are_sums (Forall₂.cons h hs) = ap₂ ◌∷◌ (is_sum h) (are_sums hs)

module _ {ps : List (List ℕ)} {xs : List ℕ} (hs : Forall₂ ByteSum ps xs) where
  by_parts : foldl plus 0 xs ≡ byte_sum (flatten ps)
  by_parts = rw (are_sums hs, sum_of_parts ps)

  pub sum_by_parts : {r : ℕ} → ByteSum (flatten ps) r → r ≡ foldl plus 0 xs
  sum_by_parts h = is_sum h ∙ sym by_parts

  -- `edid_sum_is_zero` of the block they make says whether that is 0 ..
  pub zero_by_parts : {z : Bool} → SumIsZero (flatten ps) z → z ≡ eqb (foldl plus 0 xs) 0
  zero_by_parts h = rw by_parts (is_zero h)

  -- .. and yes, where 0 minus that is put behind
  pub closed_by_parts : {z : Bool} → SumIsZero (flatten ps ++ minus 0 (foldl plus 0 xs) ∷ []) z → z ≡ true
  closed_by_parts h = rw (is_zero h, by_parts, (checksum_makes_zero (flatten ps)).1)

-- so the specimen ends: its last byte is the checksum of the 127 before it
pub specimen_ends_with_its_checksum : drop 127 specimen ≡ checksum (take 127 specimen) ∷ []
unfolding specimen
specimen_ends_with_its_checksum = refl
