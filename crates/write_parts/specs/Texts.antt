-- Laws: a text is read from its bytes where the test is passed, and it is passed where any bytes are read as the text; and the spaces behind it.
use Rattle.std.specs.Prelude.{ℕ, zero, suc, ◌<◌, ◌≤◌, ◌≡◌, refl, Bool, true, false, cond, List, [], ◌∷◌, eqb, leb, length, take, drop, replicate}
use Rattle.std.proofs.Common.{ap, add-one, arith, length-take, eqb-true, eq-eqb, le-leb, leb-true}
use Rattle.std.proofs.lemmas.List.{length-replicate, get_or-replicate}
use Rattle.bits.specs.Bytes.{◌!◌}
use Rattle.standard_parts.specs.Text.{text_length, spaces_or}
use Rattle.write_leaf.specs.Digits.{two_hold}
use Rattle.write_parts.specs.Text.{filled, text_bytes, ReadsText, WritesText, text_fits}

-- ---- read again

spaces : (n : ℕ) → spaces_or 0x00 (replicate n 0x20) ≡ true
spaces zero = refl
spaces (suc n) = spaces n

pub filled_length : (n : ℕ) (text : List ℕ) → length (filled n text) ≡ n
unfolding filled
filled_length zero text = refl
filled_length (suc n) [] = ap suc (length-replicate n 0x20)
filled_length (suc n) (x ∷ text) = ap suc (filled_length n text)

-- a text without 0x0a: the first byte is none, nor is one in the rest
first : (z : Bool) (n m : ℕ) → cond z 0 (suc n) ≡ suc m → (z ≡ false) × (n ≡ m)
first true n m h = absurd (omega arith)
first false n m h = (refl, omega arith)

record Back (n : ℕ) (text : List ℕ) : Type 0 where
  len : text_length (filled n text) ≡ length text
  is : take (length text) (filled n text) ≡ text
  rest : spaces_or 0x00 (drop (suc (length text)) (filled n text)) ≡ true

back : (n : ℕ) (text : List ℕ) → length text ≤ n → text_length text ≡ length text → Back n text
unfolding filled
back zero [] h e = record { len = refl; is = refl; rest = refl }
back zero (x ∷ text) h e = absurd (omega arith)
back (suc n) [] h e = record { len = refl; is = refl; rest = spaces n }
back (suc n) (x ∷ text) h e =
    let f = first (eqb x 0x0a) (text_length text) (length text) e in
    let b = back n text (omega arith) f.1 in
    record { len = rw f.0 (ap suc b.len); is = ap (λ l. x ∷ l) b.is; rest = b.rest }

-- what is read as a text has no 0x0a
whole : (t : List ℕ) → text_length (take (text_length t) t) ≡ length (take (text_length t) t)
whole [] = refl
whole (x ∷ t) = by (eqb x 0x0a) refl (whole t) where
  by : (z : Bool) → eqb x 0x0a ≡ z → text_length (take (text_length t) t) ≡ length (take (text_length t) t)
      → text_length (take (text_length (x ∷ t)) (x ∷ t)) ≡ length (take (text_length (x ∷ t)) (x ∷ t))
  by true e rest = rw e
  by false e rest = simp e (ap suc rest)

sound : (text : List ℕ) → text_fits text ≡ true → ReadsText (text_bytes text) text
sound text h =
    let all = two_hold (leb (length text) 13) (eqb (text_length text) (length text)) h in
    let b = back 13 text (leb-true (length text) 13 all.0) (eqb-true (text_length text) (length text) all.1) in
    record {
      size = filled_length 13 text;
      padded = rw (b.len, add-one) b.rest;
      is = rw b.len b.is;
    }

complete : (text t : List ℕ) → ReadsText t text → text_fits text ≡ true
complete text t r =
    let short : length text ≤ 13 = rw (← r.is) (omega (arith, length-take (text_length t) t, r.size)) in
    let none : text_length text ≡ length text = rw (← r.is) (whole t) in
    rw (le-leb (length text) 13 short, eq-eqb (text_length text) (length text) none)

pub writes_text : (text : List ℕ) → WritesText text (text_fits text) (text_bytes text)
writes_text text = record { made = refl; sound = sound text; complete = λ t b r. complete text t r }

-- ---- behind the 0x0a

pub padding : (n : ℕ) (text : List ℕ) (k : ℕ) → length text < k → k < n → filled n text ! k ≡ 0x20
unfolding filled
padding zero text k h l = absurd (omega arith)
padding (suc n) text zero h l = absurd (omega arith)
padding (suc n) [] (suc k) h l = get_or-replicate n k 0x20 0 (omega arith)
padding (suc n) (x ∷ text) (suc k) h l = padding n text k (omega arith) (omega arith)
