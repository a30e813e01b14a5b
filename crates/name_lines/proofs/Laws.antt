-- What the proof of `run` cites: the bytes of a name. Assumes nothing.
use Rattle.std.proofs.Common.{ℕ, ◌≡◌, refl, List, [], ◌∷◌, arith, length, take, drop}
use Rattle.std.proofs.lemmas.List.{take_all}
use Rattle.page.specs.Words.{space, hex_of2, flat, each}
use Rattle.name_lines.specs.Lines.{run}

pub run_some : (name : List ℕ) → (length name ≡ 0 → ⊥) → flat (space ∷ each hex_of2 (take (length name) (drop 0 name)) ∷ []) ≡ run name
unfolding run
run_some [] h = absurd (h refl)
run_some (b ∷ bs) h = rw (take_all (length (b ∷ bs)) (b ∷ bs) (omega arith))
