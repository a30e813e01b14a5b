-- What it is to write a leaf.
use Rattle.std.specs.Prelude.{ℕ, ◌<◌, ◌≡◌, Bool, true}

-- `bytes` is what is made of a, and is read as a where `fits` is true; that is so wherever any s for which Bytes holds is read as a
pub record Writes {S A : Type 0} (Bytes : S → Type 0) (Reads : S → A → Type 0) (make : A → S) (a : A) (fits : Bool) (bytes : S) : Type 0 where
  pub made : bytes ≡ make a
  pub sound : fits ≡ true → Reads bytes a
  pub complete : (s : S) → Bytes s → Reads s a → fits ≡ true

-- the bytes made of a are bytes, and are read as a
pub record Again {S A : Type 0} (Bytes : S → Type 0) (Reads : S → A → Type 0) (make : A → S) (a : A) : Type 0 where
  pub bytes : Bytes (make a)
  pub reads : Reads (make a) a

-- a leaf of one byte, by the function that reads it
abbrev pub WritesByte : {A : Type 0} → (ℕ → A) → (A → ℕ) → A → Bool → ℕ → Type 0
WritesByte of make = Writes (λ b. b < 256) (λ b a. of b ≡ a) make

-- two bytes
abbrev pub Two : Type 0
Two = ℕ × ℕ

abbrev pub BothBytes : Two → Type 0
BothBytes s = (s.0 < 256) × (s.1 < 256)
