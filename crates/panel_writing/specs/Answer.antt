-- What is answered to a panel's text: the writer's answer for the record that it gives, or 19.
use Rattle.std.specs.Prelude.{ℕ, List, ◌≡◌, length, Ok, Err}
use Rattle.steps.specs.declared.Refusal.{Refusal}
use Rattle.write_block.specs.Gives.{Written}
use Rattle.panel_reading.specs.Reading.{read_text}

-- the number, and the output before and after
pub data Answered (text before : List ℕ) (number : ℕ) (after : List ℕ) : Type 0 where
  wrong_length : (length before ≡ 128 → ⊥) → number ≡ 10 → after ≡ before → Answered text before number after
  not_understood : length before ≡ 128 → (f : Refusal) → (read_text text).reading.end ≡ Err f → number ≡ 19 → after ≡ before → Answered text before number after
  understood : length before ≡ 128 → (read_text text).reading.end ≡ Ok tt
      → Written (read_text text).reading.edid (read_text text).bytes before number after → Answered text before number after
