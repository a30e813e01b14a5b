-- The bytes of some pairs, from a record's list.
use Rattle.std.specs.Prelude.{ℕ, zero, suc, ◌<◌, ◌≡◌, Bool, true, cond, List, [], ◌∷◌, eqb, length, take, drop, Some}
use Rattle.standard_record.specs.Held.{held_pair}
use Rattle.standard_record.specs.declared.StandardTiming.{StandardTiming}
use Rattle.standard_record.specs.Lists.{StandardTimings}
use Rattle.standard_parts.specs.Timings.{pair_of}
use Rattle.standard_parts.specs.declared.Structure.{Structure}
use Rattle.write_parts.specs.Pair.{pair_low, pair_high}
use Rattle.write_pairs.specs.Run.{run}

-- n pairs: those listed first, then 01 01
abbrev pub pairs_bytes : ℕ → List StandardTiming → List ℕ
pairs_bytes zero ps = []
pairs_bytes (suc n) [] = 1 ∷ 1 ∷ pairs_bytes n []
pairs_bytes (suc n) (p ∷ ps) = pair_low p ∷ pair_high p ∷ pairs_bytes n ps

-- eight before the slots, six in a slot
abbrev pub most : ℕ → ℕ
most number = cond (eqb number 0) 8 6

-- the pairs at hand: those with this number, from that place of the list on
abbrev pub pairs_ahead : StandardTimings → ℕ → ℕ → List StandardTiming
pairs_ahead list from number = run held_pair number (most number) (drop from (take list.len list.items))

-- ---- the contract of `pairs_bytes`

-- P holds of each
abbrev pub All : {A : Type 0} → (A → Type 0) → List A → Type 0
All P [] = Unit
All P (x ∷ xs) = P x × All P xs

-- two bytes that are read as the pair
pub record ReadFrom (σ : Structure) (p : StandardTiming) : Type 0 where
  pub first : ℕ
  pub second : ℕ
  pub first_is_byte : first < 256
  pub second_is_byte : second < 256
  pub read : pair_of σ first second ≡ Some p

-- the pair is read from its own bytes
abbrev pub Back : Structure → StandardTiming → Type 0
Back σ p = pair_of σ (pair_low p) (pair_high p) ≡ Some p

pub record WritesPairs (σ : Structure) (ps : List StandardTiming) (fits : Bool) (bytes : List ℕ) (many : ℕ) : Type 0 where
  pub made : bytes ≡ pairs_bytes 8 ps
  pub sound : fits ≡ true → All (Back σ) ps
  pub complete : All (ReadFrom σ) ps → fits ≡ true
  pub count : many ≡ length ps
