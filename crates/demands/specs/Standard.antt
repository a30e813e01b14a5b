-- What holds of every answer of the standard reading, read off its definition.
use Rattle.std.specs.Prelude.{ℕ, ◌+◌, ◌≤◌, ◌<◌, ◌≡◌, List, [], ◌++◌, map, Ok, Err}
use Rattle.std.proofs.Common.{sym, ap, ◌∙◌, arith}
use Rattle.fixed.specs.Numbered.{turns}
use Rattle.steps.specs.declared.Refusal.{Refusal}
use Rattle.standard_record.specs.Filler.{blank}
use Rattle.standard_record.specs.Held.{held_pair}
use Rattle.standard_record.specs.Seen.{Seen, seen, Same, holding, shows}
use Rattle.standard_slots.specs.Said.{four, lists}
use Rattle.standard_slots.specs.Few.{OneKind, one_kind}
use Rattle.standard_slots.specs.Spans.{Sounds}
use Rattle.standard_reading.specs.Slots.{said_in}
use Rattle.standard_reading.specs.Block.{eight_in, plain, record_of, beside, standard_of}
use Rattle.standard_reading.specs.Judged.{end_is_verdict, bounded, sounds}
use Rattle.standard_reading.specs.Room.{fits, accepted}
use Rattle.standard_reading.specs.Entries.{entries, AllNeverFall, never_fall, entries_0, entries_of_slot, SameEntries, known_by_entries}

-- ---- an accepted block

-- its record shows what the block says: nothing is dropped
pub nothing_dropped : (s : List ℕ) → (standard_of s).end ≡ Ok tt → seen (standard_of s).edid ≡ plain s
nothing_dropped s e = ap seen (accepted s e) ∙ shows (plain s) (fits s)

-- each list of it is its entries, then the filler
pub entries_then_filler : (s : List ℕ) → (standard_of s).end ≡ Ok tt → (standard_of s).edid ≡ holding (seen (standard_of s).edid)
entries_then_filler s e = accepted s e ∙ sym (ap holding (nothing_dropped s e))

-- so it is known by what it shows: two accepted readings whose records are the same are equal
pub known_by_what_it_shows : (s t : List ℕ) → (standard_of s).end ≡ Ok tt → (standard_of t).end ≡ Ok tt
    → Same (standard_of s).edid (standard_of t).edid → standard_of s ≡ standard_of t
known_by_what_it_shows s t e h same =
    let records = entries_then_filler s e ∙ ap holding same ∙ sym (entries_then_filler t h) in
    let verdicts = e ∙ sym h in
    λ i. record { edid = records i; end = verdicts i }

-- every span of it lies before the last two bytes, 126 and 127; a text is at most 13 bytes, none of them 0x0a, with 0x0a behind fewer than 13
pub spans_inside : (s : List ℕ) → (standard_of s).end ≡ Ok tt → Sounds s (seen (standard_of s).edid).descriptors 126
spans_inside s e = rw (nothing_dropped s e) (sounds s e)

-- ---- the slot numbers of an accepted block: slot i, counted from 0, has the number i + 1

-- along each of the four lists they never fall, and are 0 to 4
pub slot_numbers_never_fall : (s : List ℕ) → (standard_of s).end ≡ Ok tt → AllNeverFall (seen (standard_of s).edid)
slot_numbers_never_fall s e = rw (nothing_dropped s e) (never_fall s)

-- the entries numbered i + 1 are what slot i says, in its order
pub entries_are_what_the_slot_says : (s : List ℕ) → (standard_of s).end ≡ Ok tt → (i : ℕ) → i < 4
    → entries (i + 1) (seen (standard_of s).edid) ≡ lists (said_in s i)
entries_are_what_the_slot_says s e i h = rw (nothing_dropped s e) (entries_of_slot s i h)

-- so no number 1 to 4 stands in two of the lists
pub one_slot_one_kind : (s : List ℕ) → (standard_of s).end ≡ Ok tt → (i : ℕ) → i < 4 → OneKind (entries (i + 1) (seen (standard_of s).edid))
one_slot_one_kind s e i h = rw (entries_are_what_the_slot_says s e i h) (one_kind (said_in s i))

-- the entries numbered 0 are the eight pairs at offset 38
pub number_0_for_the_eight_pairs : (s : List ℕ) → (standard_of s).end ≡ Ok tt
    → entries 0 (seen (standard_of s).edid) ≡ four [] (eight_in s) [] []
number_0_for_the_eight_pairs s e = rw (nothing_dropped s e) (entries_0 s)

-- these come first, then the pairs of slot after slot
pub eight_pairs_first : (s : List ℕ) → (standard_of s).end ≡ Ok tt
    → (seen (standard_of s).edid).standard ≡ map (held_pair.wrap 0) (eight_in s) ++ turns held_pair (λ i. (lists (said_in s i)).pairs) 4
eight_pairs_first s e = ap (λ x. x.standard) (nothing_dropped s e)

-- and no other lists keep these promises: with two of their entries swapped, a number has other entries, or the numbers fall
pub no_other_lists : (s : List ℕ) → (standard_of s).end ≡ Ok tt → (x : Seen) → AllNeverFall x
    → ((n : ℕ) → n ≤ 4 → entries n x ≡ entries n (seen (standard_of s).edid)) → SameEntries x (seen (standard_of s).edid)
no_other_lists s e x r h = known_by_entries x (seen (standard_of s).edid) r (slot_numbers_never_fall s e) h

-- ---- a refused block

-- a refusal's number is 2 to 9
pub refusal_2_to_9 : (s : List ℕ) (f : Refusal) → (standard_of s).end ≡ Err f → (2 ≤ f.number) × (f.number ≤ 9)
refusal_2_to_9 s f e = omega (arith, bounded s f e)

-- its place is 0 to 127
pub refused_inside : (s : List ℕ) (f : Refusal) → (standard_of s).end ≡ Err f → f.at ≤ 127
refused_inside s f e = omega (arith, bounded s f e)

-- beside it stands the filler
pub filler_beside_a_refusal : (s : List ℕ) (f : Refusal) → (standard_of s).end ≡ Err f → (standard_of s).edid ≡ blank
unfolding standard_of
filler_beside_a_refusal s f e = ap (λ v. (beside v (record_of s)).edid) (sym (end_is_verdict s) ∙ e)
