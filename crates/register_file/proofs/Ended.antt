-- What a batch came to, from what was read, stepped and written of it.
use Rattle.std.proofs.Common.{inl, inr, ◌⊎◌, ◌≡◌, ℕ, ◌+◌, ◌-◌, ◌*◌, ◌≤◌, ◌<◌, List, [], ◌++◌, arith, length, take, drop, refl, sym, ap, ◌∙◌, subst, length-take-le, length-drop, take-append-drop}
use Rattle.std.specs.Prelude.{Option, None, Some, Result, Ok, Err, OnOk, Bool, true, false, nat_lt}
use Rattle.std.specs.Result.{is_err}
use Rattle.std.specs.Io.KnownBytes.{Appends, Consumes, IsAtEnd}
use Rattle.std.proofs.lemmas.List.{take-append-le}
use Rattle.std.proofs.lemmas.Bool.{false≢true}
use mathlib.Core.List.{append-nil}
use lib.Seq.{take-take}
use Rattle.register.specs.Refusals.{refusal_number}
use Rattle.register.specs.declared.StepRefusal.{StepRefusal}
use Rattle.register_file.specs.File.{from_of, Converted, converted}
use Rattle.register_file.specs.Laws.{no_records}
use Rattle.register_file.specs.Run.{Records, Ends}
use Rattle.register_file.specs.declared.Way.{Way}
use Rattle.register_file.specs.declared.End.TheVariants.{More, Whole, Refused, ReadFailed, WriteFailed}

nothing_written : (h : Option (List ℕ)) → Appends h h []
nothing_written None = tt
nothing_written (Some xs) = sym (append-nil xs)

-- `count` bytes came into the space, those up to `end` were stepped, and what came of them was written
module _ (way : Way) (first from count end written records number : ℕ) (space rest output : List ℕ) (l l' h h' : Option (List ℕ))
    (is_from : from ≡ from_of way) (long : length space ≡ 248 * from) (fits : count ≤ length space) (bound : end ≤ count)
    (came : Consumes l l' (take count space))
    (stepped : record { bytes = take written output; count = records; number = number } ≡ converted way 248 (take (end - 0) (space ++ rest)))
    (wrote : Appends h h' (take (written - 0) output)) where
  abbrev s : List ℕ
  s = take end space

  all : record { bytes = take written output; count = records; number = number } ≡ converted way 248 s
  all =
      let same : end - 0 ≡ end = omega arith in
      stepped ∙ ap (λ (n : ℕ). converted way 248 (take n (space ++ rest))) same ∙ ap (converted way 248) (take-append-le end space rest (omega arith))

  its_number : (converted way 248 s).number ≡ number
  its_number = sym (ap (λ (c : Converted). c.number) all)

  its_count : records ≡ (converted way 248 s).count
  its_count = ap (λ (c : Converted). c.count) all

  its_bytes : Appends h h' (converted way 248 s).bytes
  its_bytes =
      let same : written - 0 ≡ written = omega arith in
      subst (Appends h h') (ap (λ (n : ℕ). take n output) same ∙ ap (λ (c : Converted). c.bytes) all) wrote

  long_s : length s ≡ end
  long_s = length-take-le end space (omega arith)

  the_whole : end ≡ count → Consumes l l' s
  the_whole e = subst (Consumes l l') (ap (λ (n : ℕ). take n space) (sym e)) came

  abbrev behind : List ℕ
  behind = drop end (take count space)

  in_two : Consumes l l' (s ++ behind)
  in_two = subst (Consumes l l')
      (sym (ap (λ (t : List ℕ). t ++ drop end (take count space)) (sym (take-take end count space bound)) ∙ take-append-drop end (take count space))) came

  long_behind : length behind ≡ count - end
  long_behind = length-drop end (take count space) ∙ ap (λ (n : ℕ). n - end) (length-take-le count space fits)

  whole : (n : ℕ) × (end ≡ n * from) → Records way s
  whole (n, e) = (n, long_s ∙ e ∙ ap (λ (k : ℕ). n * k) is_from)

  whole_or_end : ((n : ℕ) × (end ≡ n * from)) ⊎ IsAtEnd l' → Records way s ⊎ IsAtEnd l'
  whole_or_end (inl r) = inl (whole r)
  whole_or_end (inr e) = inr e

  pub is_more : number ≡ 0 → end ≡ count → 248 * from ≤ count → Ends way first 248 l l' h h' More
  is_more z e full =
      (s, omega (arith, long_s, is_from, long, fits, e, full), the_whole e, (its_number ∙ z, its_bytes))

  pub is_whole : number ≡ 0 → end ≡ count → count < 248 * from → IsAtEnd l' → Ends way first 248 l l' h h' Whole
  is_whole z e short over = (s, omega (arith, long_s, is_from, e, short), the_whole e, over, (its_number ∙ z, its_bytes))

  pub is_refused : ((n : ℕ) × (end ≡ n * from)) ⊎ IsAtEnd l' → (why : StepRefusal) → number ≡ refusal_number why → Ends way first 248 l l' h h' (Refused (first + records) why)
  is_refused r why is = (s, behind, in_two, whole_or_end r, its_number ∙ is, ap (λ (n : ℕ). first + n) its_count, its_bytes)

  pub is_read_failed : ((n : ℕ) × (end ≡ n * from)) → number ≡ 0 → count < end + from → Ends way first 248 l l' h h' (ReadFailed (first + records))
  is_read_failed r z cut =
      (s, behind, in_two, whole r, omega (arith, long_behind, is_from, cut), ap (λ (n : ℕ). first + n) its_count, (its_number ∙ z, its_bytes))

pub is_write_failed : (way : Way) (first : ℕ) (came : List ℕ) (l l' h h' : Option (List ℕ)) → Consumes l l' came → Ends way first 248 l l' h h' (WriteFailed first)
is_write_failed way first came l l' h h' read =
    (0, [], came, h, omega arith, omega arith, read, omega arith, rw (no_records way []) (refl, nothing_written h))

pub on_no_err : {T E : Type 0} (P : Type 0) (r : Result T E) (b : Bool) → b ≡ false → b ≡ is_err r → OnOk r P → P
on_no_err P (Ok t) b off e h = h
on_no_err P (Err x) b off e h = absurd (false≢true (sym off ∙ e))

-- all that came, but not a record that a failed read cut short: these are whole records, or the input had ended
pub records_or_end : (failed : Bool) (from count end room : ℕ) (l : Option (List ℕ)) → (failed ≡ true → (n : ℕ) × (end ≡ n * from)) → (failed ≡ false → end ≡ count)
    → (failed ≡ false → count < room → IsAtEnd l) → room ≡ 248 * from → count ≤ room → ((n : ℕ) × (end ≡ n * from)) ⊎ IsAtEnd l
records_or_end true from count end room l cut all over size fits = inl (cut refl)
records_or_end false from count end room l cut all over size fits = by (nat_lt count room) refl
  where
    by : (t : Bool) → nat_lt count room ≡ t → ((n : ℕ) × (end ≡ n * from)) ⊎ IsAtEnd l
    by true e = inr (over refl (grind arith))
    by false e = let full : room ≤ count = grind arith in inl (248, all refl ∙ omega (arith, full, fits, size))
