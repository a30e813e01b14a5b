-- The 13 bytes of a text: the text, and behind a shorter one 0x0a, then spaces.
use Rattle.std.specs.Prelude.{ℕ, zero, suc, ◌+◌, ◌≡◌, Bool, true, cond, List, [], ◌∷◌, eqb, leb, ltb, length, take, replicate}
use Rattle.standard_parts.specs.Text.{text_length, is_padded}
use Rattle.bits.specs.Bytes.{◌!◌}
use Rattle.write_leaf.specs.Bytes.{Bytes, digit}
use Rattle.write_leaf.specs.Leaf.{Writes}

-- n bytes
unfoldable pub filled : ℕ → List ℕ → List ℕ
filled zero text = []
filled (suc n) [] = 0x0a ∷ replicate n 0x20
filled (suc n) (x ∷ text) = x ∷ filled n text

abbrev pub text_bytes : List ℕ → List ℕ
text_bytes = filled 13

-- 13 bytes that pass the reading's test, and whose text is this one
pub record ReadsText (t text : List ℕ) : Type 0 where
  pub size : length t ≡ 13
  pub padded : is_padded t (text_length t) ≡ true
  pub is : take (text_length t) t ≡ text

abbrev pub WritesText : List ℕ → Bool → List ℕ → Type 0
WritesText = Writes Bytes ReadsText text_bytes

-- ---- what the code does: byte k of them, and the test

abbrev pub text_byte : List ℕ → ℕ → ℕ
text_byte text k = cond (ltb k (length text)) (text ! k) (cond (eqb k (length text)) 0x0a 0x20)

abbrev pub text_fits : List ℕ → Bool
text_fits text = eqb (digit (leb (length text) 13) + digit (eqb (text_length text) (length text))) 2
