-- What follows of the answers from where the name lies.
use Rattle.std.specs.Prelude.{ℕ, ◌+◌, ◌≤◌, List, length, None, Option, Some}
use Rattle.std.proofs.Common.{arith}
use Rattle.steps.specs.declared.Span.{Span}
use Rattle.naming.specs.Name.{name_of, shown, shown_of, place_of, from}
use Rattle.naming.specs.Listed.{SoundName, sound_name}

-- the part shown is within its block
pub within : (p q : List ℕ) → let x = shown_of p q in (place_of x).start + (place_of x).len ≤ length (from x p q)
within p q = go (name_of p) (name_of q) (sound_name p) (sound_name q)
  where
    go : (a b : Option Span) → SoundName p a → SoundName q b → let x = shown a b in (place_of x).start + (place_of x).len ≤ length (from x p q)
    go (Some t) b h k = omega (arith, h.0.inside, h.1)
    go None (Some t) h k = omega (arith, k.0.inside, k.1)
    go None None h k = omega arith
