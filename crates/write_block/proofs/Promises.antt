-- What the writer promises of records that a block gives: what follows from the laws of what it is to give one.
use Rattle.std.specs.Prelude.{ℕ, ◌<◌, ◌≤◌, ◌≡◌, refl, List, ◌∷◌, ◌++◌, length, Ok}
use Rattle.std.proofs.Common.{sym, ap, ◌∙◌, lt-ltb}
use Rattle.standard_record.specs.Seen.{seen}
use Rattle.standard_record.specs.declared.StandardRecord.{StandardRecord}
use Rattle.standard_record.specs.declared.HeldPair.{HeldPair}
use Rattle.standard_parts.specs.Timings.{ratio}
use Rattle.standard_reading.specs.Block.{standard_of}
use Rattle.write_leaf.specs.Bytes.{Bytes}
use Rattle.write_block.specs.Shown.{shown}
use Rattle.write_block.specs.Canonical.{block_of}
use Rattle.write_block.specs.Gives.{Gives, NoneGives, Written}
use Rattle.write_block.specs.Holds.{structure_from}
use Rattle.write_block.specs.Ratios.{Coded, no_16_10, no_1_1}
use Rattle.write_block.proofs.Ratios.{own_ratios}
use Rattle.write_block.specs.Given.{all_split}
use Rattle.write_block.proofs.Canon.{canonical_gives}
use Rattle.write_block.specs.Promises.{gives_own, written_gives, refused_exactly, given_is_written}

-- a record that its canonical block does not give is given by none
pub refused_if : (r : StandardRecord) (lent : List ℕ) → (Gives (block_of (shown lent (seen r))) r lent → ⊥) → NoneGives r lent
refused_if r lent h b g = h (canonical_gives b r lent g)

module _ {r : StandardRecord} {lent before after : List ℕ} {number : ℕ} where
  -- a record with a pair, wherever it stands, whose ratio no code means in its structure is refused
  pub uncoded_is_refused : Written r lent before number after → length before ≡ 128 → (fs bs : List HeldPair) (h : HeldPair)
      → (seen r).standard ≡ fs ++ h ∷ bs → (Coded (structure_from (seen r)) h.pair.ratio → ⊥) → number ≡ 11
  uncoded_is_refused w size fs bs h is none = (refused_exactly w).1 size (λ b g. none (all_split _ fs (h ∷ bs) (rw is at (own_ratios b r lent g))).1.0)

  -- of 16:10 that is so below revision 3, of 1:1 from it on
  pub old_16_10_is_refused : Written r lent before number after → length before ≡ 128 → (seen r).version.revision < 3 → (fs bs : List HeldPair) (h : HeldPair)
      → (seen r).standard ≡ fs ++ h ∷ bs → h.pair.ratio ≡ ratio 16 10 → number ≡ 11
  old_16_10_is_refused w size old fs bs h is e = uncoded_is_refused w size fs bs h is (λ c. no_16_10 (rw (lt-ltb _ _ old, e) at c))

  pub new_1_1_is_refused : Written r lent before number after → length before ≡ 128 → 3 ≤ (seen r).version.revision → (fs bs : List HeldPair) (h : HeldPair)
      → (seen r).standard ≡ fs ++ h ∷ bs → h.pair.ratio ≡ ratio 1 1 → number ≡ 11
  new_1_1_is_refused w size new fs bs h is e = uncoded_is_refused w size fs bs h is (λ c. no_1_1 _ new (rw e at c))

-- the record of every accepted block is written
pub read_is_written : (b : List ℕ) {before after : List ℕ} {number : ℕ} → Bytes b → (standard_of b).end ≡ Ok tt
    → Written (standard_of b).edid b before number after → length before ≡ 128 → number ≡ 0
read_is_written b h e w size = given_is_written w size b (gives_own b h e)

-- what was read from a written block is written as the same bytes
pub written_again : {r : StandardRecord} {lent before after before' after' : List ℕ} {number : ℕ} → Written r lent before 0 after
    → length before' ≡ 128 → Written (standard_of after).edid after before' number after' → (number ≡ 0) × (after' ≡ after)
written_again {after = after} w size w' =
    let v = written_gives w refl in
    let n = read_is_written after v.gives.bytes v.gives.accepted w' size in
    (n, (written_gives w' n).is ∙ ap block_of v.gives.same ∙ sym v.is)
