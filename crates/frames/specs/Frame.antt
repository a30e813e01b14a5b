-- A frame: two bytes that tell its length, and as many bytes. What a reader gave for what was read of one.
use Rattle.std.specs.Prelude.{◌≡◌, ℕ, ◌+◌, ◌*◌, ◌≤◌, ◌<◌, List, [], ◌++◌, length, take, slice_index, Option}
use Rattle.std.specs.Io.KnownBytes.{Consumes, IsAtEnd}
use Rattle.frames.specs.declared.Came.{Came}
use Rattle.frames.specs.declared.Came.TheVariants.{All, Nothing, Part, TooLong}

-- the length that the first two bytes tell, the low one first
abbrev pub length_told : List ℕ → ℕ
length_told head = slice_index head 0 + 256 * slice_index head 1

-- From `old` on, what a reader has left, to `new`. A whole frame: its two bytes, and then the n that are put at the start of the space. Nothing: the input had
-- ended. A part: the input ended within the frame. Too long: its two bytes, which tell of more than the space has room for.
abbrev pub ReadsFrame : Option (List ℕ) → Option (List ℕ) → List ℕ → Came → Type 0
ReadsFrame old new space (All n) =
    (head : List ℕ) × (length head ≡ 2) × (n ≡ length_told head) × (n ≤ length space) × Consumes old new (head ++ take n space)
ReadsFrame old new space Nothing = Consumes old new [] × IsAtEnd new
ReadsFrame old new space Part =
    (part : List ℕ) × (0 < length part) × (2 ≤ length part → length part < 2 + length_told part) × Consumes old new part × IsAtEnd new
ReadsFrame old new space TooLong = (head : List ℕ) × (length head ≡ 2) × (length space < length_told head) × Consumes old new head
