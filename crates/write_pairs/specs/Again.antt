-- Laws: pairs that are read from any bytes are read from their own bytes, and these are bytes.
use Rattle.std.specs.Prelude.{ℕ, zero, suc, List, [], ◌∷◌}
use Rattle.std.proofs.Common.{arith}
use Rattle.standard_record.specs.declared.StandardTiming.{StandardTiming}
use Rattle.standard_parts.specs.declared.Structure.{Structure}
use Rattle.write_leaf.specs.Bytes.{Bytes}
use Rattle.write_leaf.specs.Leaf.{BothBytes}
use Rattle.write_leaf.specs.Again.{cons_bytes}
use Rattle.write_parts.specs.Pair.{pair_low, pair_high}
use Rattle.write_parts.specs.Again.{pair_are_bytes}
use Rattle.write_parts.proofs.Again.{pair_again}
use Rattle.write_pairs.specs.Pairs.{pairs_bytes, All, ReadFrom, Back}

pub pairs_again : (σ : Structure) (ps : List StandardTiming) → All (ReadFrom σ) ps → All (Back σ) ps
pairs_again σ [] h = tt
pairs_again σ (p ∷ ps) h =
    let r = h.0 in
    ((pair_again σ p (r.first, r.second) (r.first_is_byte, r.second_is_byte) r.read).reads, pairs_again σ ps h.1)

two_more : (a b : ℕ) (t : List ℕ) → BothBytes (a, b) → Bytes t → Bytes (a ∷ b ∷ t)
two_more a b t h k = cons_bytes a (b ∷ t) h.0 (cons_bytes b t h.1 k)

pub pairs_are_bytes : (n : ℕ) (ps : List StandardTiming) → Bytes (pairs_bytes n ps)
pairs_are_bytes zero ps = λ i. omega arith
pairs_are_bytes (suc n) [] = two_more 1 1 (pairs_bytes n []) (omega arith) (pairs_are_bytes n [])
pairs_are_bytes (suc n) (p ∷ ps) = two_more (pair_low p) (pair_high p) (pairs_bytes n ps) (pair_are_bytes p) (pairs_are_bytes n ps)
