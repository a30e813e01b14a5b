-- Laws of a run that is padded with zeros.
use Rattle.std.specs.Prelude.{ℕ, zero, suc, ◌≡◌, refl, List, [], ◌∷◌, length}
use Rattle.std.proofs.Common.{ap, arith}
use Rattle.fixed.specs.Fixed.{pad}
use Rattle.write_leaf.specs.Bytes.{Bytes}
use Rattle.write_leaf.specs.Again.{cons_bytes}

pub pad_whole : (n : ℕ) (l : List ℕ) → length l ≡ n → pad n 0 l ≡ l
pad_whole zero [] h = refl
pad_whole zero (x ∷ l) h = absurd (omega arith)
pad_whole (suc n) [] h = absurd (omega arith)
pad_whole (suc n) (x ∷ l) h = ap (λ l. x ∷ l) (pad_whole n l (omega arith))

pub pad_size : (n : ℕ) (l : List ℕ) → length (pad n 0 l) ≡ n
pad_size zero l = refl
pad_size (suc n) [] = ap suc (pad_size n [])
pad_size (suc n) (x ∷ l) = ap suc (pad_size n l)

pub pad_bytes : (n : ℕ) (l : List ℕ) → Bytes l → Bytes (pad n 0 l)
pad_bytes zero l h = λ i. omega arith
pad_bytes (suc n) [] h = cons_bytes 0 (pad n 0 []) (omega arith) (pad_bytes n [] h)
pad_bytes (suc n) (x ∷ l) h = cons_bytes x (pad n 0 l) (h 0) (pad_bytes n l (λ i. h (suc i)))
