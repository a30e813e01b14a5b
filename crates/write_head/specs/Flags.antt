-- The three bytes of the established timings, from the numbers of the flags.
use Rattle.std.specs.Prelude.{ℕ, ◌+◌, ◌*◌, ◌/◌, ◌%◌, ◌^◌, ◌<◌, ◌≡◌, Bool, true, false, ◌&&◌, List, [], ◌∷◌, eqb}
use Rattle.standard_parts.specs.Timings.{flags_of}
use Rattle.write_leaf.specs.Bytes.{low}
use Rattle.write_leaf.specs.Leaf.{Writes}

-- a digit for each flag; of a number that is none it is no matter: the bytes are then read as others
abbrev pub total : List ℕ → ℕ
total [] = 0
total (x ∷ xs) = 2 ^ (x % 17) + total xs

abbrev pub Three : Type 0
Three = ℕ × ℕ × ℕ

abbrev pub flag_bytes : List ℕ → Three
flag_bytes xs = (low (total xs), low (total xs / 256), total xs / 65536 % 2 * 128)

abbrev pub WritesFlags : List ℕ → Bool → Three → Type 0
WritesFlags =
    Writes
    (λ (s : Three). (s.0 < 256) × (s.1 < 256) × (s.2 < 256))
    (λ (s : Three) xs. flags_of s.0 s.1 s.2 ≡ xs)
    flag_bytes

-- the test that the code makes: the bytes are read again, and each flag compared
abbrev pub same_list : List ℕ → List ℕ → Bool
same_list [] [] = true
same_list [] (y ∷ ys) = false
same_list (x ∷ xs) [] = false
same_list (x ∷ xs) (y ∷ ys) = eqb x y && same_list xs ys
