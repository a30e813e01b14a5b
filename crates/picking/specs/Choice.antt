-- What the chooser answers: the index of a timing, or the number of a refusal.
use Rattle.std.specs.Prelude.{ℕ, Result}

abbrev pub Choice : Type 0
Choice = Result ℕ ℕ
