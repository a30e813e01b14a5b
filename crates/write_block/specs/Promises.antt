-- What the writer promises: of every answer that its contract allows, and of the canonical block. What rests on which blocks give a record is in proofs/Promises.
use Rattle.std.specs.Prelude.{ℕ, ◌≡◌, refl, List, length, Ok}
use Rattle.std.proofs.Common.{sym, ap, ◌∙◌, arith}
use Rattle.sums.specs.Sum.{byte_sum}
use Rattle.sums.specs.Joined.{checksum_makes_zero}
use Rattle.standard_record.specs.Seen.{seen}
use Rattle.standard_record.specs.declared.StandardRecord.{StandardRecord}
use Rattle.standard_reading.specs.Block.{standard_of}
use Rattle.write_leaf.specs.Bytes.{Bytes}
use Rattle.write_block.specs.Shown.{shown}
use Rattle.write_block.specs.Canonical.{body, block_of}
use Rattle.write_block.specs.Gives.{SpansInside, Gives, NoneGives, Written, wrong_length, no_block, written}
use Rattle.write_block.specs.Own.{own_inside}

-- every accepted block gives its own record
pub gives_own : (b : List ℕ) → Bytes b → (standard_of b).end ≡ Ok tt → Gives b (standard_of b).edid b
gives_own b h e = record { bytes = h; accepted = e; inside = own_inside b e; same = refl }

-- ---- of every answer

-- on 0 the block gives the record, it is the canonical one, and its sum is zero
pub record Success (r : StandardRecord) (lent after : List ℕ) : Type 0 where
  pub gives : Gives after r lent
  pub is : after ≡ block_of (shown lent (seen r))
  pub sum : byte_sum after ≡ 0

module _ {r : StandardRecord} {lent before after : List ℕ} {number : ℕ} where
  pub written_gives : Written r lent before number after → number ≡ 0 → Success r lent after
  written_gives (wrong_length h n a) e = absurd (omega arith)
  written_gives (no_block s h n a) e = absurd (omega arith)
  written_gives (written s g n a) e = record { gives = g; is = a; sum = rw a (checksum_makes_zero (body (shown lent (seen r)))).1 }

  -- a refusal leaves the output as it was
  pub untouched : Written r lent before number after → (number ≡ 0 → ⊥) → after ≡ before
  untouched (wrong_length l n a) h = a
  untouched (no_block s l n a) h = a
  untouched (written s g n a) h = absurd (h n)

  -- 10 exactly where the output is not 128 bytes long
  pub ten_exactly : Written r lent before number after → (number ≡ 10 → length before ≡ 128 → ⊥) × ((length before ≡ 128 → ⊥) → number ≡ 10)
  ten_exactly (wrong_length h n a) = (λ e. h, λ l. n)
  ten_exactly (no_block s h n a) = (λ e. absurd (omega arith), λ l. absurd (l s))
  ten_exactly (written s g n a) = (λ e. absurd (omega arith), λ l. absurd (l s))

  -- 11 exactly where it is and no block gives the record
  pub refused_exactly : Written r lent before number after
      → (number ≡ 11 → (length before ≡ 128) × NoneGives r lent) × (length before ≡ 128 → NoneGives r lent → number ≡ 11)
  refused_exactly (wrong_length h n a) = (λ e. absurd (omega arith), λ s. absurd (h s))
  refused_exactly (no_block s h n a) = (λ e. (s, h), λ s none. n)
  refused_exactly (written s g n a) = (λ e. absurd (omega arith), λ s none. absurd (none after g))

  -- what some block gives is written
  pub given_is_written : Written r lent before number after → length before ≡ 128 → (b : List ℕ) → Gives b r lent → number ≡ 0
  given_is_written (wrong_length h n a) size b g = absurd (h size)
  given_is_written (no_block s h n a) size b g = absurd (h b g)
  given_is_written (written s h n a) size b g = n

  -- a record with a span outside the bytes lent is refused
  pub outside_is_refused : Written r lent before number after → length before ≡ 128 → (SpansInside (seen r).descriptors (length lent) → ⊥) → number ≡ 11
  outside_is_refused w size out = (refused_exactly w).1 size (λ b g. out g.inside)

-- ---- what is shown decides

-- of two records that show the same, and that the same blocks give
alike : {r r' : StandardRecord} {lent lent' before after after' : List ℕ} {number number' : ℕ} → shown lent (seen r) ≡ shown lent' (seen r')
    → ((b : List ℕ) → Gives b r lent → Gives b r' lent') → ((b : List ℕ) → Gives b r' lent' → Gives b r lent)
    → Written r lent before number after → Written r' lent' before number' after' → (number ≡ number') × (after ≡ after')
alike e to back (wrong_length h n a) (wrong_length k m c) = (n ∙ sym m, a ∙ sym c)
alike e to back (wrong_length h n a) (no_block s k m c) = absurd (h s)
alike e to back (wrong_length h n a) (written s k m c) = absurd (h s)
alike e to back (no_block s h n a) (wrong_length k m c) = absurd (k s)
alike e to back (no_block s h n a) (no_block t k m c) = (n ∙ sym m, a ∙ sym c)
alike e to back (no_block s h n a) (written t k m c) = absurd (h _ (back _ k))
alike e to back (written s h n a) (wrong_length k m c) = absurd (k s)
alike e to back (written s h n a) (no_block t k m c) = absurd (k _ (to _ h))
alike e to back (written s h n a) (written t k m c) = (n ∙ sym m, a ∙ ap block_of e ∙ sym c)

-- at most one answer fits
pub one_written : {r : StandardRecord} {lent before after after' : List ℕ} {number number' : ℕ}
    → Written r lent before number after → Written r lent before number' after' → (number ≡ number') × (after ≡ after')
one_written = alike refl (λ b g. g) (λ b g. g)

-- records that show the same, each with its spans inside, have the same answer
pub shown_alone : {r r' : StandardRecord} {lent lent' before after after' : List ℕ} {number number' : ℕ} → shown lent (seen r) ≡ shown lent' (seen r')
    → SpansInside (seen r).descriptors (length lent) → SpansInside (seen r').descriptors (length lent')
    → Written r lent before number after → Written r' lent' before number' after' → (number ≡ number') × (after ≡ after')
shown_alone e i i' =
    alike e (λ b g. record { bytes = g.bytes; accepted = g.accepted; inside = i'; same = g.same ∙ e })
    (λ b g. record { bytes = g.bytes; accepted = g.accepted; inside = i; same = g.same ∙ sym e })

-- the same shown record, the same bytes
pub canonical : {r r' : StandardRecord} {lent lent' before before' after after' : List ℕ} → shown lent (seen r) ≡ shown lent' (seen r')
    → Written r lent before 0 after → Written r' lent' before' 0 after' → after ≡ after'
canonical e w w' = (written_gives w refl).is ∙ ap block_of e ∙ sym (written_gives w' refl).is
