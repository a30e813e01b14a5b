-- What is answered, by a function that puts its answer on a page and tells where it ends.
use Rattle.std.specs.Prelude.{◌≡◌, ℕ, List, take, Option}
use Rattle.std.specs.Borrow.{Bor, MutBor}
use Rattle.std.specs.Io.KnownBytes.{Appends}

-- `answer` says what that function may do: from a page, and bytes, to an end, and the page as it leaves it
abbrev pub Answer : Type 1
Answer = MutBor (List ℕ) → Bor (List ℕ) → ℕ → MutBor (List ℕ) → Type 0

-- it was asked about the bytes s, and the start of the page that it left, up to its end, is what was written
abbrev pub Writes : Answer → List ℕ → Option (List ℕ) → Option (List ℕ) → Type 0
Writes answer s old new =
    (page : MutBor (List ℕ)) × (bytes : Bor (List ℕ)) × (end : ℕ) × (left : MutBor (List ℕ))
    × (bytes.now ≡ s) × answer page bytes end left × Appends old new (take end left.now)
