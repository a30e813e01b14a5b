-- A file in two parts, of which the first is whole records and none is refused: what comes of it is what comes of the parts, one behind the other.
use Rattle.std.specs.Prelude.{ℕ, zero, suc, ◌+◌, ◌*◌, ◌≤◌, ◌<◌, ◌≡◌, refl, List, ◌++◌, length, take, drop}
use Rattle.std.proofs.Common.{sym, ap, ◌∙◌, suc-mul, arith, length-append, length-drop, drop_at}
use Rattle.std.proofs.lemmas.List.{take-append-le, drop-append-le}
use Rattle.register.specs.Register.{Step, Refused, Record}
use Rattle.register.specs.Promises.{Numbered}
use Rattle.register_file.specs.File.{step_of, from_of, Converted, before, converted}
use Rattle.register_file.specs.Laws.{numbered, first, no_records, ahead}
use Rattle.register_file.specs.Promises.{and_then, in_batches}
use Rattle.register_file.specs.declared.Way.{Way}
use Rattle.register_file.specs.declared.Way.TheVariants.{Up, Down}

some : (way : Way) → 0 < from_of way
some Up = omega arith
some Down = omega arith

-- what stands behind n whole records is not looked at
pub front : (way : Way) (n : ℕ) (s t : List ℕ) → length s ≡ n * from_of way → converted way n (s ++ t) ≡ converted way n s
front way zero s t h = no_records way (s ++ t) ∙ sym (no_records way s)
front way (suc n) s t h =
    let size = from_of way in
    let at_least : size ≤ length s = omega (arith, h, suc-mul n size) in
    let left : length (drop size s) ≡ n * size = omega (arith, h, suc-mul n size, length-drop size s) in
    let full : 0 < length s = omega (arith, some way, at_least) in
    rw (first way n (s ++ t) (omega (arith, length-append s t, full)), first way n s full, take-append-le size s t at_least, drop-append-le size s t at_least, front way n (drop size s) t left) refl

before_counts : (n : ℕ) (step : Step) → Numbered step → (c : Converted) → (before step c).number ≡ 0 → (c.number ≡ 0 → c.count ≡ n) → (before step c).count ≡ suc n
before_counts n (Refused k) h c z f = absurd (h z)
before_counts n (Record t) h c z f = ap suc (f z)

-- n whole records of which none is refused are n
pub counts : (way : Way) (n : ℕ) (s : List ℕ) → length s ≡ n * from_of way → (converted way n s).number ≡ 0 → (converted way n s).count ≡ n
counts way zero s h z = ap (λ (c : Converted). c.count) (no_records way s)
counts way (suc n) s h z =
    let size = from_of way in
    let left : length (drop size s) ≡ n * size = omega (arith, h, suc-mul n size, length-drop size s) in
    let full : 0 < length s = omega (arith, some way, h, suc-mul n size) in
    let one = first way n s full in
    ap (λ (c : Converted). c.count) one
    ∙ before_counts n (step_of way (take size s)) (numbered way (take size s)) (converted way n (drop size s)) (sym (ap (λ (c : Converted). c.number) one) ∙ z) (counts way n (drop size s) left)

behind : (k : ℕ) (c d : Converted) → k ≡ 0 → and_then k c d ≡ ahead c.bytes c.count d
behind zero c d z = refl
behind (suc k) c d z = absurd (omega arith)

pub joined : (way : Way) (m n : ℕ) (s t : List ℕ) → length s ≡ m * from_of way → (converted way m s).number ≡ 0
    → converted way (m + n) (s ++ t) ≡ ahead (converted way m s).bytes m (converted way n t)
joined way m n s t h z =
    in_batches way m n (s ++ t)
    ∙ ap (λ (c : Converted). and_then c.number c (converted way n (drop (m * from_of way) (s ++ t)))) (front way m s t h)
    ∙ behind (converted way m s).number (converted way m s) (converted way n (drop (m * from_of way) (s ++ t))) z
    ∙ ap (λ (u : List ℕ). ahead (converted way m s).bytes (converted way m s).count (converted way n u)) (drop_at s t (m * from_of way) h)
    ∙ ap (λ (k : ℕ). ahead (converted way m s).bytes k (converted way n t)) (counts way m s h z)
