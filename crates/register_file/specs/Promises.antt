-- What holds of a file: batch after batch it is the whole, and there and back it is the same.
use Rattle.std.specs.Prelude.{ℕ, zero, suc, ◌+◌, ◌*◌, ◌≤◌, ◌<◌, ◌≡◌, refl, List, [], ◌∷◌, ◌++◌, length, take, drop}
use Rattle.std.proofs.Common.{sym, ap₂, subst, append_assoc, zero-add, zero-mul, suc-add, suc-mul, arith, length-append, length-drop, take-append-drop, drop-drop, take_at, drop_at}
use Rattle.std.proofs.Math.Seq.{drop-nil}
use Rattle.write_leaf.specs.Bytes.{Bytes}
use Rattle.write_leaf.specs.Again.{take_bytes, drop_bytes}
use Rattle.register.specs.Register.{Step, Refused, Record}
use Rattle.register.specs.Promises.{Numbered, takes}
use Rattle.register.proofs.Promises.{up_then_down, down_then_up}
use Rattle.register_file.specs.File.{other, step_of, from_of, Converted, before, converted}
use Rattle.register_file.specs.Laws.{numbered, first, no_records, no_bytes, ahead, at_start}
use Rattle.register_file.specs.declared.Way.{Way}
use Rattle.register_file.specs.declared.Way.TheVariants.{Up, Down}

-- what comes behind, where none of these is refused
abbrev pub and_then : ℕ → Converted → Converted → Converted
and_then zero these rest = ahead these.bytes these.count rest
and_then (suc number) these rest = these

behind_record : (t : List ℕ) (k : ℕ) (c d : Converted) → before (Record t) (and_then k c d) ≡ and_then k (before (Record t) c) d
behind_record t zero c d =
    ap₂ (λ (bytes : List ℕ) (count : ℕ). record { bytes = bytes; count = count; number = d.number }) (sym (append_assoc t c.bytes d.bytes)) (sym (suc-add c.count d.count))
behind_record t (suc k) c d = refl

behind_step : (step : Step) → Numbered step → (c d : Converted) → before step (and_then c.number c d) ≡ and_then (before step c).number (before step c) d
behind_step (Refused zero) h c d = absurd (h refl)
behind_step (Refused (suc k)) h c d = refl
behind_step (Record t) h c d = behind_record t c.number c d

pub in_batches : (way : Way) (m n : ℕ) (s : List ℕ)
    → converted way (m + n) s ≡ and_then (converted way m s).number (converted way m s) (converted way n (drop (m * from_of way) s))
in_batches way zero n s = rw (no_records way s, zero-add n, zero-mul (from_of way)) (sym (at_start (converted way n s)))
in_batches way (suc m) n [] = rw (no_bytes way (suc m + n) [] refl, no_bytes way (suc m) [] refl, drop-nil (suc m * from_of way), no_bytes way n [] refl) refl
in_batches way (suc m) n (b ∷ s) =
    let l = b ∷ s in
    let size = from_of way in
    let rest : suc m * size ≡ size + m * size = omega (arith, suc-mul m size) in
    rw (suc-add m n, first way (m + n) l (omega arith), first way m l (omega arith), rest, ← (drop-drop (m * size) size l), in_batches way m n (drop size l))
    (behind_step (step_of way (take size l)) (numbered way (take size l)) (converted way m (drop size l)) (converted way n (drop (m * size) (drop size l))))

-- ---- there and back

step_back : (way : Way) (s t : List ℕ) → Bytes s → step_of way s ≡ Record t → step_of (other way) t ≡ Record s
step_back Up = up_then_down
step_back Down = down_then_up

step_takes : (way : Way) (s t : List ℕ) → step_of way s ≡ Record t → length s ≡ from_of way
step_takes Up s t = takes 136 s t _
step_takes Down s t = takes 264 s t _

some_bytes : (way : Way) → 0 < from_of way
some_bytes Up = omega arith
some_bytes Down = omega arith

-- where none is refused, what is written is converted back to s
abbrev pub Back : Way → ℕ → List ℕ → Converted → Type 0
Back way n s c = c.number ≡ 0 → converted (other way) n c.bytes ≡ record { bytes = s; count = c.count; number = 0 }

none_back : (way : Way) (n : ℕ) → Back way n [] (converted way n [])
none_back way n = rw (no_bytes way n [] refl) (λ z. no_bytes (other way) n [] refl)

one_back : (way : Way) (n : ℕ) (r q : List ℕ) (c : Converted) → Bytes r → Back way n q c → (step : Step) → step_of way r ≡ step → Back way (suc n) (r ++ q) (before step c)
one_back way n r q c b ih (Refused k) e z = absurd (subst Numbered e (numbered way r) z)
one_back way n r q c b ih (Record t) e z =
    let back = step_back way r t b e in
    let size = step_takes (other way) t r back in
    let some = some_bytes (other way) in
    rw (first (other way) n (t ++ c.bytes) (omega (arith, length-append t c.bytes)), take_at t c.bytes (from_of (other way)) size, drop_at t c.bytes (from_of (other way)) size, back, ih z) refl

-- n steps, which use up all of s
pub there_and_back : (way : Way) (n : ℕ) (s : List ℕ) → Bytes s → length s ≤ n * from_of way → Back way n s (converted way n s)
there_and_back way zero [] b h = none_back way zero
there_and_back way zero (x ∷ s) b h = absurd (omega (arith, zero-mul (from_of way)))
there_and_back way (suc n) [] b h = none_back way (suc n)
there_and_back way (suc n) (x ∷ s) b h =
    let l = x ∷ s in
    let size = from_of way in
    let left : length (drop size l) ≤ n * size = omega (arith, length-drop size l, suc-mul n size) in
    rw (first way n l (omega arith))
    (subst (λ (t : List ℕ). Back way (suc n) t (before (step_of way (take size l)) (converted way n (drop size l)))) (take-append-drop size l)
    (one_back way n (take size l) (drop size l) (converted way n (drop size l)) (take_bytes size l b) (there_and_back way n (drop size l) (drop_bytes size l b) left) (step_of way (take size l)) refl))
