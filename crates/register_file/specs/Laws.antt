-- Laws of `converted`: its first record, and where there is none.
use Rattle.std.specs.Prelude.{ℕ, zero, suc, ◌+◌, ◌<◌, ◌≡◌, refl, List, [], ◌∷◌, ◌++◌, length, take, drop}
use Rattle.std.proofs.Common.{ap, arith}
use Rattle.register.specs.Promises.{Numbered, up_numbered, down_numbered}
use Rattle.register_file.specs.File.{step_of, from_of, Converted, nothing, before, converted}
use Rattle.register_file.specs.declared.Way.{Way}
use Rattle.register_file.specs.declared.Way.TheVariants.{Up, Down}

pub numbered : (way : Way) (s : List ℕ) → Numbered (step_of way s)
numbered Up = up_numbered
numbered Down = down_numbered

pub first : (way : Way) (n : ℕ) (s : List ℕ) → 0 < length s
    → converted way (suc n) s ≡ before (step_of way (take (from_of way) s)) (converted way n (drop (from_of way) s))
unfolding converted
first way n [] h = absurd (omega arith)
first way n (b ∷ s) h = refl

pub no_records : (way : Way) (s : List ℕ) → converted way 0 s ≡ nothing
unfolding converted
no_records way s = refl

pub no_bytes : (way : Way) (n : ℕ) (s : List ℕ) → length s ≡ 0 → converted way n s ≡ nothing
unfolding converted
no_bytes way zero s h = refl
no_bytes way (suc n) [] h = refl
no_bytes way (suc n) (b ∷ s) h = absurd (omega arith)

-- what is written already, and what is left
abbrev pub ahead : List ℕ → ℕ → Converted → Converted
ahead w i c = record { bytes = w ++ c.bytes; count = i + c.count; number = c.number }

pub at_start : (c : Converted) → ahead [] 0 c ≡ c
at_start c = ap (λ (n : ℕ). record { bytes = c.bytes; count = n; number = c.number }) (omega arith)
