-- The bytes of a text, one by one. Assumes nothing.
use Prim.Native.Nat.{ℕ, zero, suc}
use mathlib.Core.Path.{◌≡◌, refl, ap, ap₂, ◌∙◌}
use mathlib.Core.List.{List, [], ◌∷◌}
use native.Mathlib.Omega.{arith}
use lib.Dec.{leb-suc-suc, leb-suc-zero, eqb-suc-suc, eqb-suc-zero}
use lib.ListN.{length, replicate}
use borrow.Author.Tests.{lt-ltb}
use Rattle.write_parts.specs.Text.{filled, text_bytes, text_byte}

-- f at n places from k on
tab : (ℕ → ℕ) → ℕ → ℕ → List ℕ
tab f k zero = []
tab f k (suc n) = f k ∷ tab f (suc k) n

byte_shift : (x : ℕ) (text : List ℕ) (k : ℕ) → text_byte (x ∷ text) (suc k) ≡ text_byte text k
byte_shift x text k = rw (leb-suc-suc (suc k) (length text), eqb-suc-suc k (length text))

tab_shift : (x : ℕ) (text : List ℕ) (k n : ℕ) → tab (text_byte (x ∷ text)) (suc k) n ≡ tab (text_byte text) k n
unfolding tab
tab_shift x text k zero = refl
tab_shift x text k (suc n) = ap₂ ◌∷◌ (byte_shift x text k) (tab_shift x text (suc k) n)

tab_spaces : (k n : ℕ) → tab (text_byte []) (suc k) n ≡ replicate n 0x20
unfolding tab
tab_spaces k zero = refl
tab_spaces k (suc n) = rw (leb-suc-zero (suc k), eqb-suc-zero k) (ap (λ l. 0x20 ∷ l) (tab_spaces (suc k) n))

filled_tab : (n : ℕ) (text : List ℕ) → tab (text_byte text) 0 n ≡ filled n text
unfolding tab filled
filled_tab zero text = refl
filled_tab (suc n) [] = ap (λ l. 0x0a ∷ l) (tab_spaces 0 n)
filled_tab (suc n) (x ∷ text) = rw (lt-ltb 0 (suc (length text)) (omega arith)) (ap (λ l. x ∷ l) (tab_shift x text 0 n ∙ filled_tab n text))

pub tabbed : (text : List ℕ)
    → text_byte text 0 ∷ text_byte text 1 ∷ text_byte text 2 ∷ text_byte text 3 ∷ text_byte text 4 ∷ text_byte text 5 ∷ text_byte text 6 ∷ text_byte text 7
    ∷ text_byte text 8 ∷ text_byte text 9 ∷ text_byte text 10 ∷ text_byte text 11 ∷ text_byte text 12 ∷ []
    ≡ text_bytes text
unfolding tab
tabbed text = filled_tab 13 text
