-- A text ends at the first 0x0a: none stands in it, and one behind it, unless it is the whole list.
use Rattle.std.specs.Prelude.{ℕ, zero, suc, ◌≤◌, ◌<◌, ◌≡◌, refl, Bool, true, false, List, [], ◌∷◌, eqb, length, get_or}
use Rattle.std.proofs.Common.{arith, eqb-true}
use Rattle.std.proofs.lemmas.Bool.{eqb-false}
use Rattle.standard_parts.specs.Text.{text_length}

pub record TextEnds (bs : List ℕ) : Type 0 where
  pub short : text_length bs ≤ length bs
  pub clean : (i : ℕ) → i < text_length bs → get_or bs i 0 ≡ 0x0a → ⊥
  pub behind : text_length bs < length bs → get_or bs (text_length bs) 0 ≡ 0x0a

pub text_ends : (bs : List ℕ) → TextEnds bs
text_ends [] = record { short = omega arith; clean = λ i h. absurd (omega arith); behind = λ h. absurd (omega arith) }
text_ends (b ∷ bs) = go (eqb b 0x0a) refl (text_ends bs)
  where
    -- here, or further on
    stops : eqb b 0x0a ≡ true → TextEnds (b ∷ bs)
    stops p =
        record { short = rw p (omega arith); clean = λ i h. absurd (omega (arith, rw p at h)); behind = rw p (λ h. eqb-true b 0x0a p) }

    clean_on : eqb b 0x0a ≡ false → TextEnds bs → (i : ℕ) → i < text_length (b ∷ bs) → get_or (b ∷ bs) i 0 ≡ 0x0a → ⊥
    clean_on p q zero h e = eqb-false b 0x0a p e
    clean_on p q (suc i) h e = q.clean i (omega (arith, rw p at h)) e

    goes_on : eqb b 0x0a ≡ false → TextEnds bs → TextEnds (b ∷ bs)
    goes_on p q = record { short = rw p (omega (arith, q.short)); clean = clean_on p q; behind = rw p (λ h. q.behind (omega arith)) }

    go : (t : Bool) → eqb b 0x0a ≡ t → TextEnds bs → TextEnds (b ∷ bs)
    go true p q = stops p
    go false p q = goes_on p q
