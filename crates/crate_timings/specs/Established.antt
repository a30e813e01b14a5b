-- The seventeen established flags, in the source's order.
use Rattle.std.specs.Prelude.{ℕ, List, ◌++◌}
use Rattle.bits.specs.Fields.{bit}
use Rattle.fixed.specs.Gather.{gather, when}
use Rattle.steps.specs.Steps.{Steps, done, ◌>>=◌}
use Rattle.steps.specs.Leaves.{byte, word}

-- each digit of ft that is on lists its number, 0 to 15; digit 7 of the last byte lists 16
unfoldable pub flags_of : ℕ → ℕ → List ℕ
flags_of ft last = gather (λ k. when (bit ft k) k) 16 ++ when (bit last 7) 16

unfoldable pub established : Steps (List ℕ)
established = do
  ft ← word
  last ← byte
  done (flags_of ft last)
