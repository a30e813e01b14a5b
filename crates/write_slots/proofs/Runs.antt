-- The bytes of an array or of a run, one by one. Assumes nothing.
use Prim.Native.Nat.{ℕ, zero, suc, ◌≤◌}
use mathlib.Core.Path.{◌≡◌, refl, ap, ◌∙◌}
use mathlib.Core.List.{List, [], ◌∷◌, ◌++◌}
use native.Mathlib.Omega.{arith}
use lib.ListN.{length, take}
use Rattle.bits.specs.Bytes.{◌!◌}
use Rattle.fixed.specs.Fixed.{pad}
use Rattle.write_slots.specs.Runs.{pad_whole}

-- f at 0 to n - 1
abbrev gets : ℕ → (ℕ → ℕ) → List ℕ
gets zero f = []
gets (suc n) f = f 0 ∷ gets n (λ k. f (suc k))

-- the first n bytes, and 0 past the end
pub gets_pad : (n : ℕ) (l : List ℕ) → gets n (λ k. l ! k) ≡ pad n 0 l
gets_pad zero l = refl
gets_pad (suc n) [] = ap (λ l. 0 ∷ l) (gets_pad n [])
gets_pad (suc n) (x ∷ l) = ap (λ l. x ∷ l) (gets_pad n l)

pub gets_whole : (n : ℕ) (l : List ℕ) → length l ≡ n → gets n (λ k. l ! k) ≡ l
gets_whole n l h = gets_pad n l ∙ pad_whole n l h

pad_again : (n m : ℕ) (l : List ℕ) → n ≤ m → pad n 0 (pad m 0 l) ≡ pad n 0 l
pad_again zero m l h = refl
pad_again (suc n) zero l h = absurd (omega arith)
pad_again (suc n) (suc m) [] h = ap (λ l. 0 ∷ l) (pad_again n m [] (omega arith))
pad_again (suc n) (suc m) (x ∷ l) h = ap (λ l. x ∷ l) (pad_again n m l (omega arith))

-- the first seven of 13
pub gets_seven : (b l : List ℕ) → b ≡ pad 13 0 l → gets 7 (λ k. b ! k) ≡ pad 7 0 l
gets_seven b l e = gets_pad 7 b ∙ ap (pad 7 0) e ∙ pad_again 7 13 l (omega arith)

-- the first n, where there are as many, before others
pub gets_take : (n : ℕ) (l s : List ℕ) → n ≤ length l → gets n (λ k. l ! k) ++ s ≡ take n l ++ s
gets_take zero l s h = refl
gets_take (suc n) [] s h = absurd (omega arith)
gets_take (suc n) (x ∷ l) s h = ap (λ t. x ∷ t) (gets_take n l s (omega arith))
