-- Of a frame that is cut short behind its first two bytes, these and what came are the part.
use Rattle.std.proofs.Common.{◌≡◌, ℕ, ◌+◌, ◌≤◌, ◌<◌, List, [], ◌∷◌, ◌++◌, arith, rules, length, take, subst, length-take-le, take_all}
use Rattle.std.specs.Prelude.{Option}
use Rattle.std.specs.Io.KnownBytes.{Consumes, IsAtEnd}
use Rattle.std.proofs.KnownBytes.{Consumes-trans}
use Rattle.frames.specs.Frame.{length_told}
use Rattle.frames.proofs.read_frame.Goals as goal

cut : (a b d : Option (List ℕ)) (head body : List ℕ) (got k n : ℕ) → length head ≡ 2 → 2 ≤ got → n ≡ length_told head → k < n → k ≤ length body
    → Consumes a b (take got head) → Consumes b d (take k body) → IsAtEnd d
    → (part : List ℕ) × (0 < length part) × (2 ≤ length part → length part < 2 + length_told part) × Consumes a d part × IsAtEnd d
cut a b d [] body got k n two g e less fits first rest end = absurd (omega arith)
cut a b d (x ∷ []) body got k n two g e less fits first rest end = absurd (omega arith)
cut a b d (x ∷ y ∷ z ∷ zs) body got k n two g e less fits first rest end = absurd (omega arith)
cut a b d (x ∷ y ∷ []) body got k n two g e less fits first rest end =
    let head = x ∷ y ∷ [] in
    let whole : take got head ≡ head = take_all got head g in
    let size : length (take k body) ≡ k = length-take-le k body fits in (
      head ++ take k body,
      omega arith,
      (λ h. omega arith),
      Consumes-trans a b d head (take k body) (subst (Consumes a b) whole first) rest,
      end,
    )

pub returns-then-branch-n : goal.returns-then-branch-n
returns-then-branch-n g c =
    cut _ _ _ c.fill.new.space c.fill-2.new.space c.in_ok-got.got c.in_ok-fill.field-0 c.length_told-n.result (search rules) (search rules) c.length_told-n.ensures (search rules) (search rules) c.in_ok-got.ensures.bytes c.in_ok-fill.ensures.bytes (search rules)
