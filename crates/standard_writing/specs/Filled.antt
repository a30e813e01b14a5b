-- What the tests of the writer tell: where they hold every part is read as it was meant, and they hold where any block gives the record.
use Rattle.std.specs.Prelude.{◌≡◌, ℕ, ◌<◌, Bool, true, List, [], ◌∷◌, ◌++◌}
use Rattle.fixed.specs.Gather.{gather}
use Rattle.sums.specs.Joined.{checksum}
use Rattle.standard_record.specs.Seen.{seen}
use Rattle.standard_record.specs.declared.StandardRecord.{StandardRecord}
use Rattle.write_block.specs.Gives.{Gives}
use Rattle.write_block.specs.Taken.{Empty, eight, rest, taken}
use Rattle.write_block.specs.Shown.{front_of}
use Rattle.write_block.specs.Built.{Fit}
use Rattle.write_pairs.specs.Pairs.{pairs_bytes, All, Back}
use Rattle.write_head.specs.Front.{front_bytes, ReadsFront}
use Rattle.write_block.specs.Holds.{structure_from, Holds, slot_from}

-- the first n slots
pub record FitSoFar (r : StandardRecord) (lent : List ℕ) (n : ℕ) (fits : Bool) : Type 0 where
  pub sound : fits ≡ true → (i : ℕ) → i < n → Holds (structure_from (seen r)) lent (slot_from lent (taken (seen r) i)) (taken (seen r) i)
  pub complete : (b : List ℕ) → Gives b r lent → fits ≡ true

-- the four slots, and nothing is left
pub record SlotsFit (r : StandardRecord) (lent : List ℕ) (fits : Bool) : Type 0 where
  pub sound : fits ≡ true → (i : ℕ) → i < 4 → Holds (structure_from (seen r)) lent (slot_from lent (taken (seen r) i)) (taken (seen r) i)
  pub used : fits ≡ true → Empty (rest (seen r) 4)
  pub complete : (b : List ℕ) → Gives b r lent → fits ≡ true

-- the front and the eight pairs
pub record FrontFit (r : StandardRecord) (fits : Bool) : Type 0 where
  pub front : fits ≡ true → ReadsFront (front_bytes (front_of (seen r))) (front_of (seen r))
  pub pairs : fits ≡ true → All (Back (structure_from (seen r))) (eight (seen r))
  pub complete : (b lent : List ℕ) → Gives b r lent → fits ≡ true

-- the front, the eight pairs, the slots and the number of extensions, as the writer lays them
abbrev pub laid : StandardRecord → List ℕ → List ℕ
laid r lent =
    front_bytes (front_of (seen r))
    ++ (pairs_bytes 8 (eight (seen r))
    ++ (gather (λ i. slot_from lent (taken (seen r) i)) 4
    ++ (seen r).extensions ∷ []))

-- the whole block
pub record Filled (r : StandardRecord) (lent : List ℕ) (fits : Bool) (block : List ℕ) : Type 0 where
  pub is : block ≡ laid r lent ++ checksum (laid r lent) ∷ []
  pub sound : fits ≡ true → Fit r lent
  pub complete : (b : List ℕ) → Gives b r lent → fits ≡ true
