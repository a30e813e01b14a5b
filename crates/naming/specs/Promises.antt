-- What holds of the answers to every two blocks. That the part shown is within its block is in proofs/Promises.
use Rattle.std.specs.Prelude.{ℕ, ◌≡◌, refl, List, length, None, Option, Some}
use Rattle.std.proofs.Common.{sym, ◌∙◌, arith, length-take, length-drop}
use Rattle.std.specs.Borrow.{Bor}
use Rattle.steps.specs.declared.Span.{Span}
use Rattle.naming.specs.Name.{name_of, shown, shown_of, number_of, place_of, IsPart, IsShown}
use Rattle.naming.specs.declared.Shown.{Shown}
use Rattle.naming.specs.declared.Shown.TheVariants.{Panel}

-- ---- the answers agree

-- the number n, the place k and the part r that the blocks p and q are answered with: whose name it is, where it begins, and the name
pub data Answered (p q r : Bor (List ℕ)) : ℕ → ℕ → Type 0 where
  panels : (t : Span) → name_of p.now ≡ Some t → IsPart p t r → Answered p q r 0 t.start
  references : (t : Span) → name_of p.now ≡ None → name_of q.now ≡ Some t → IsPart q t r → Answered p q r 1 t.start
  neither : name_of p.now ≡ None → name_of q.now ≡ None → IsPart p (record { start = 0; len = 0 }) r → Answered p q r 18 0

-- whatever answers the contracts allow
pub agree : (p q r : Bor (List ℕ)) (n k : ℕ) → let x = shown_of p.now q.now in
    n ≡ number_of x → k ≡ (place_of x).start → IsShown p q x r → Answered p q r n k
agree p q r n k = go (name_of p.now) (name_of q.now) refl refl
  where
    go : (a b : Option Span) → name_of p.now ≡ a → name_of q.now ≡ b → let x = shown a b in
        n ≡ number_of x → k ≡ (place_of x).start → IsShown p q x r → Answered p q r n k
    go (Some t) b f g e l h = rw (e, l) (panels t f h)
    go None (Some t) f g e l h = rw (e, l) (references t f g h)
    go None None f g e l h = rw (e, l) (neither f g h)

-- and that of the part allows one: where it begins in memory, and its bytes
pub one_part : (p q r r' : Bor (List ℕ)) (x : Shown) → IsShown p q x r → IsShown p q x r' → (r.ref_ptr ≡ r'.ref_ptr) × (r.now ≡ r'.now)
one_part p q r r' x h k = (λ i. ((h.memory ∙ sym k.memory) i, (h.offset ∙ sym k.offset) i), h.bytes ∙ sym k.bytes)

-- its length is that of the text
pub part_length : (s : Bor (List ℕ)) (t : Span) (r : Bor (List ℕ)) → IsPart s t r → length r.now ≡ t.len
part_length s t r h = rw h.bytes (simp (length-take, length-drop) (omega (arith, h.inside)))

-- ---- where the panel has a name the reference is of no account

pub of_no_account : (p : List ℕ) (t : Span) → name_of p ≡ Some t → (q : List ℕ) → shown_of p q ≡ Panel t
of_no_account p t e q = rw e
