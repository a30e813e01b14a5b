-- A run over a file: what is read, written and told, as far as a reader and a writer say which bytes they have.
use Rattle.std.specs.Prelude.{ℕ, ◌+◌, ◌*◌, ◌≤◌, ◌<◌, ◌≡◌, ◌⊎◌, List, ◌++◌, length, Option}
use Rattle.std.specs.Io.KnownBytes.{Appends, Consumes, IsAtEnd}
use Rattle.register.specs.Refusals.{refusal_number}
use Rattle.register_file.specs.File.{from_of, converted}
use Rattle.register_file.specs.declared.Way.{Way}
use Rattle.register_file.specs.declared.End.{End}
use Rattle.register_file.specs.declared.End.TheVariants.{More, Whole, Refused, ReadFailed, WriteFailed}

-- the first n records of s, or as many as there are, are written, and none is refused
abbrev pub Accepted : Way → ℕ → List ℕ → Option (List ℕ) → Option (List ℕ) → Type 0
Accepted way n s held held' = ((converted way n s).number ≡ 0) × Appends held held' (converted way n s).bytes

-- no record is cut short
abbrev pub Records : Way → List ℕ → Type 0
Records way s = (n : ℕ) × (length s ≡ n * from_of way)

-- From record `first` on at most n more: what the reader has left and what the writer holds, before and after, and what is told. n records; the rest of the
-- file; the records before a refused one, with its index and why, which is refused for being short only where the input had ended; those before a record that a failed read cut short, with the index of that; and of a write that
-- failed the index of the first record of its batch, before which all are written.
abbrev pub Ends : Way → ℕ → ℕ → Option (List ℕ) → Option (List ℕ) → Option (List ℕ) → Option (List ℕ) → End → Type 0
Ends way first n left left' held held' More = (s : List ℕ) × (length s ≡ n * from_of way) × Consumes left left' s × Accepted way n s held held'
Ends way first n left left' held held' Whole = (s : List ℕ) × (length s ≤ n * from_of way) × Consumes left left' s × IsAtEnd left' × Accepted way n s held held'
Ends way first n left left' held held' (Refused index refusal) =
    (s : List ℕ) × (more : List ℕ) × Consumes left left' (s ++ more) × (Records way s ⊎ IsAtEnd left') × ((converted way n s).number ≡ refusal_number refusal)
    × (index ≡ first + (converted way n s).count) × Appends held held' (converted way n s).bytes
Ends way first n left left' held held' (ReadFailed index) =
    (s : List ℕ) × (cut : List ℕ) × Consumes left left' (s ++ cut) × Records way s × (length cut < from_of way) × (index ≡ first + (converted way n s).count)
    × Accepted way n s held held'
Ends way first n left left' held held' (WriteFailed index) =
    (m : ℕ) × (s : List ℕ) × (more : List ℕ) × (between : Option (List ℕ)) × (m ≤ n) × (length s ≡ m * from_of way) × Consumes left left' (s ++ more)
    × (index ≡ first + m) × Accepted way m s held between
