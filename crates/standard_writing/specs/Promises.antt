-- At most one answer of the writer fits its contract.
use Rattle.std.specs.Prelude.{ℕ, ◌≡◌, List, Result}
use Rattle.standard_record.specs.declared.StandardRecord.{StandardRecord}
use Rattle.write_block.specs.Gives.{Written}
use Rattle.write_block.specs.Promises.{one_written}
use Rattle.standard_writing.specs.declared.WriteRefusal.{WriteRefusal}
use Rattle.standard_writing.specs.Refusals.{told, one_told}

-- and one output
pub one_answer : {r : StandardRecord} {lent before after after' : List ℕ} {a a' : Result Unit WriteRefusal}
    → Written r lent before (told a) after → Written r lent before (told a') after' → (a ≡ a') × (after ≡ after')
one_answer w w' = let same = one_written w w' in (one_told same.0, same.1)
