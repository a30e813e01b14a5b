-- Worked cases of the definition, as entries of one list under one claim. antt computes each.
use Rattle.std.specs.Prelude.{ℕ, ◌≡◌, refl, List, [], ◌∷◌, ◌++◌, take, replicate, set}
use Rattle.register.specs.Register.{zeros, short, Step, Refused, Record, step_up, step_down, into}

-- blocks of one byte over and over: what they hold is not judged
abbrev pub base : List ℕ
base = replicate 128 0xb5

abbrev pub extension : List ℕ
extension = replicate 128 0xe7

-- the records of panel 0x12345678
abbrev pub old : List ℕ
old = 0x78 ∷ 0x56 ∷ 0x34 ∷ 0x12 ∷ 0 ∷ 0 ∷ 0 ∷ 0 ∷ base

abbrev pub new : ℕ → List ℕ → List ℕ
new count block = 0x78 ∷ 0x56 ∷ 0x34 ∷ 0x12 ∷ count ∷ 0 ∷ 0 ∷ 0 ∷ base ++ block

-- what is computed, and what it is to be
pub record Case : Type 0 where
  pub computed : Step
  pub expected : Step

infix 10 ◌is◌
abbrev pub ◌is◌ : Step → Step → Case
a is b = record { computed = a; expected = b }

unfoldable pub cases : List Case
cases =
    -- the record by its layout, and by its bytes
    (step_up (short 0x12345678 base) is Record (new 0 (zeros 128))) ∷
    (step_up old is Record (new 0 (zeros 128))) ∷
    (step_down (new 0 (zeros 128)) is Record old) ∷
    -- too short, too long, and of the other length
    (step_up [] is Refused 15) ∷
    (step_up (take 135 old) is Refused 15) ∷
    (step_up (0 ∷ old) is Refused 15) ∷
    (step_up (new 0 (zeros 128)) is Refused 15) ∷
    (step_down (new 0 (zeros 127)) is Refused 15) ∷
    (step_down old is Refused 15) ∷
    -- the first and the last of the bytes that must be zero
    (step_up (set old 4 1) is Refused 17) ∷
    (step_up (set old 7 1) is Refused 17) ∷
    (step_down (set (new 0 (zeros 128)) 5 1) is Refused 17) ∷
    (step_down (set (new 0 (zeros 128)) 7 1) is Refused 17) ∷
    (step_down (set (new 0 (zeros 128)) 136 1) is Refused 17) ∷
    (step_down (set (new 0 (zeros 128)) 263 1) is Refused 17) ∷
    -- a count of 2, and of 1: with an extension, with a block of zeros, and 17 before 16
    (step_down (new 2 extension) is Refused 17) ∷
    (step_down (new 1 extension) is Refused 16) ∷
    (step_down (new 1 (zeros 128)) is Refused 16) ∷
    (step_down (set (new 1 extension) 7 1) is Refused 17) ∷ []

abbrev pub Hold : List Case → Type 0
Hold [] = Unit {0}
Hold (c ∷ cs) = (c.computed ≡ c.expected) × Hold cs

pub cases_hold : Hold cases
unfolding cases
cases_hold = (refl, (refl, (refl, (refl, (refl, (refl, (refl, (refl, (refl, (refl, (refl, (refl, (refl, (refl, (refl, (refl, (refl, (refl, (refl, tt)))))))))))))))))))

-- the number and the output afterwards: judged by its length first, kept where it is refused, and the other record where it is not
pub outputs-hold :
    (into 264 old (step_up (set old 4 1)) ≡ (15, old))
    × (into 264 (new 2 extension) (step_up (set old 4 1)) ≡ (17, new 2 extension))
    × (into 264 (new 2 extension) (step_up old) ≡ (0, new 0 (zeros 128)))
    × (into 136 [] (step_down (new 1 extension)) ≡ (15, []))
    × (into 136 old (step_down (new 1 extension)) ≡ (16, old))
    × (into 136 extension (step_down (new 0 (zeros 128))) ≡ (15, extension))
outputs-hold = (refl, refl, refl, refl, refl, refl)
