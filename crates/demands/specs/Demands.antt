-- What holds of every answer of the definition of demand 2: demand 3, that nothing is dropped, what a refusal is. Each fact of demand 3 holds
-- of every program that takes one byte after another; here it is that of the whole reading.
use Rattle.std.specs.Prelude.{ℕ, ◌+◌, ◌*◌, ◌≤◌, ◌<◌, ◌≡◌, List, length, take}
use Rattle.std.proofs.Common.{sym, ap, ◌∙◌, subst, arith}
use Rattle.steps.specs.Steps.{got, refused, run}
use Rattle.steps.specs.Answers.{taken, within, Enough, cut_short, same_start, out_at_end, numbered}
use Rattle.crate_record.specs.Seen.{seen, Same, holding, Fits, shows}
use Rattle.crate_record.specs.declared.EDID.{EDID}
use Rattle.crate_reading.specs.Reading.{Parts, parts, plain, reading, answer}
use Rattle.crate_reading.specs.Sizes.{tens, longs, at_most_three, ends_reading, parts_of, read_of}

-- ---- demand 3

-- (a) cut to any k below the bytes taken, the input is out of data at k
pub cut_is_out_of_data : (s : List ℕ) (k : ℕ) → k < taken (answer s) → answer (take k s) ≡ refused 1 k
cut_is_out_of_data s k h = cut_short reading s k h

-- (b) if the answer is not out of data, every input with the same first bytes, as many as were taken, gets the same answer
pub same_bytes_same_answer : (s t : List ℕ) → Enough (answer s) → take (taken (answer s)) t ≡ take (taken (answer s)) s → answer t ≡ answer s
same_bytes_same_answer s t e q = same_start reading s t e q

-- (c) a record only for so many bytes of s, by the four slots that were read: 127, less 13 for each of the last three with tag 10, and 5 more for each with
-- tag fb whose first index is not zero and whose second is
abbrev pub Exact : List ℕ → ℕ → Type 0
Exact s n = (p : Parts) × (run parts s 0 ≡ got p n) × (length p.slots ≡ 4) × (n + 13 * tens p ≡ 127 + 5 * longs p)

pub exact_bytes : (s : List ℕ) (e : EDID) (n : ℕ) → answer s ≡ got e n → Exact s n
exact_bytes s e n h =
    let q = parts_of s e n h in
    let r = read_of s q.0 n q.1 in
    (q.0, q.1, r.slots, r.exactly)

-- so for 88 to 142; which numbers of these occur, both ends among them, is in `Bytes`
pub record_takes_88_to_142 : (s : List ℕ) (e : EDID) (n : ℕ) → answer s ≡ got e n → (88 ≤ n) × (n ≤ 142)
record_takes_88_to_142 s e n h =
    let q = exact_bytes s e n h in
    let t = at_most_three q.0 q.2 in
    (omega (arith, q.3, t), omega (arith, q.3, t))

-- ---- records

-- what is read fits the record: 17 flags, 26 standard and 4 detailed timings, 6 points, 3 descriptors
pub they_fit : (s : List ℕ) (p : Parts) (n : ℕ) → run parts s 0 ≡ got p n → Fits (plain p)
they_fit s p n h = (read_of s p n h).fits

-- so no entry is dropped: a record shows all that was read, list by list
pub nothing_dropped : (s : List ℕ) (e : EDID) (n : ℕ) → answer s ≡ got e n → (p : Parts) × (run parts s 0 ≡ got p n) × (seen e ≡ plain p)
nothing_dropped s e n h =
    let q = parts_of s e n h in
    (q.0, q.1, ap seen q.2 ∙ shows (plain q.0) (they_fit s q.0 n q.1))

-- each list of a record is its entries, then the filler
pub entries_then_filler : (s : List ℕ) (e : EDID) (n : ℕ) → answer s ≡ got e n → e ≡ holding (seen e)
entries_then_filler s e n h =
    let q = parts_of s e n h in
    let r = shows (plain q.0) (they_fit s q.0 n q.1) in
    q.2 ∙ sym (ap holding (ap seen q.2 ∙ r))

-- so a record is known by what it shows; the bytes taken may differ, as by a last slot of tag fa with six pairs of 01 01, or of tag 10
pub known_by_what_it_shows : (s t : List ℕ) (e f : EDID) (n m : ℕ) → answer s ≡ got e n → answer t ≡ got f m → Same e f → e ≡ f
known_by_what_it_shows s t e f n m h k same =
    entries_then_filler s e n h ∙ ap holding same ∙ sym (entries_then_filler t f m k)

-- ---- places

-- the bytes taken, or a refusal's place, are at most the input's length
pub taken_inside : (s : List ℕ) → taken (answer s) ≤ length s
taken_inside s = within reading s 0 (omega arith)

-- out of data is refused there
pub out_of_data_at_the_length : (s : List ℕ) (n : ℕ) → answer s ≡ refused 1 n → n ≡ length s
out_of_data_at_the_length s n o = out_at_end reading _ s 0 n ends_reading (omega arith) o

-- ---- refusals

-- the number is 1 to 6
pub refusal_1_to_6 : (s : List ℕ) (k n : ℕ) → answer s ≡ refused k n → (1 ≤ k) × (k ≤ 6)
refusal_1_to_6 s k n o = numbered reading _ s 0 ends_reading k n o

-- the place is at most the input's length
pub refused_inside : (s : List ℕ) (k n : ℕ) → answer s ≡ refused k n → n ≤ length s
refused_inside s k n o = subst (λ r. taken r ≤ length s) o (taken_inside s)
