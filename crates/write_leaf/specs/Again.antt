-- Laws: one answer of a leaf fits; what any bytes are read as, is read from its own bytes; and which lists are bytes.
use Rattle.std.specs.Prelude.{ℕ, zero, suc, ◌+◌, ◌<◌, ◌≡◌, refl, List, [], ◌∷◌, ◌++◌, Bool, true, false, take, drop}
use Rattle.std.proofs.Common.{sym, ◌∙◌, subst, arith, get_or-drop}
use Rattle.bits.specs.Bytes.{part}
use Rattle.write_leaf.specs.Bytes.{Bytes}
use Rattle.write_leaf.specs.Leaf.{Writes, Again}

-- where the bytes made of a are bytes, at most one answer fits
pub one_leaf : {S A : Type 0} {Bytes : S → Type 0} {Reads : S → A → Type 0} {make : A → S} {a : A} {f g : Bool} {s t : S}
    → Writes Bytes Reads make a f s → Writes Bytes Reads make a g t → Bytes s → (f ≡ g) × (s ≡ t)
one_leaf {Bytes = Bytes} {Reads} {make} {a} {f} {g} {s} {t} w v b = (go f g w v, w.made ∙ sym v.made)
  where
    go : (f g : Bool) → Writes Bytes Reads make a f s → Writes Bytes Reads make a g t → f ≡ g
    go true true w v = refl
    go false false w v = refl
    go true false w v = sym (v.complete s b (w.sound refl))
    go false true w v = w.complete s b (subst (λ z. Reads z a) (v.made ∙ sym w.made) (v.sound refl))

-- a leaf that is complete and sound, and whose bytes are bytes
pub again : {S A : Type 0} {Bytes : S → Type 0} {Reads : S → A → Type 0} {make : A → S} {a : A} {fits : Bool} {bytes : S}
    → Writes Bytes Reads make a fits bytes → (s : S) → Bytes s → Reads s a → Bytes (make a) → Again Bytes Reads make a
again w s b r m = record { bytes = m; reads = rw (← w.made) (w.sound (w.complete s b r)) }

-- ---- lists of bytes

-- each below 256, one by one: a goal that `omega` takes apart
abbrev pub Each : List ℕ → Type 0
Each [] = Unit
Each (x ∷ t) = (x < 256) × Each t

pub cons_bytes : (x : ℕ) (t : List ℕ) → x < 256 → Bytes t → Bytes (x ∷ t)
cons_bytes x t h k zero = h
cons_bytes x t h k (suc i) = k i

pub each_byte : (t : List ℕ) → Each t → Bytes t
each_byte [] h = λ i. omega arith
each_byte (x ∷ t) h = cons_bytes x t h.0 (each_byte t h.1)

pub append_bytes : (s t : List ℕ) → Bytes s → Bytes t → Bytes (s ++ t)
append_bytes [] t h k = k
append_bytes (x ∷ s) t h k = cons_bytes x (s ++ t) (h 0) (append_bytes s t (λ j. h (suc j)) k)

-- bytes one by one before others
pub each_before : (s t : List ℕ) → Each s → Bytes t → Bytes (s ++ t)
each_before s t h = append_bytes s t (each_byte s h)

pub take_bytes : (n : ℕ) (t : List ℕ) → Bytes t → Bytes (take n t)
take_bytes zero t h = λ i. omega arith
take_bytes (suc n) [] h = h
take_bytes (suc n) (x ∷ t) h = cons_bytes x (take n t) (h 0) (take_bytes n t (λ j. h (suc j)))

pub drop_bytes : (k : ℕ) (t : List ℕ) → Bytes t → Bytes (drop k t)
drop_bytes k t h i = rw get_or-drop (h (k + i))

pub part_bytes : (t : List ℕ) (k n : ℕ) → Bytes t → Bytes (part t k n)
part_bytes t k n h = take_bytes n (drop k t) (drop_bytes k t h)
