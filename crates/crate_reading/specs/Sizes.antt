-- How many bytes an accepted block takes, and that what is read fits the record.
use Rattle.std.specs.Prelude.{ℕ, ◌+◌, ◌*◌, ◌≤◌, ◌≡◌, List, length, drop}
use Rattle.std.proofs.Common.{sym, ◌∙◌, subst, arith, length-append, length-drop}
use Rattle.steps.specs.Steps.{done, Outcome, got, refused, run, and_then}
use Rattle.steps.specs.Laws.{run_bind}
use Rattle.steps.specs.Leaves.{byte}
use Rattle.steps.specs.Answers.{Ends, ends_then, Ended, ends, takes_byte}
use Rattle.crate_record.specs.Seen.{Fits, holding}
use Rattle.crate_record.specs.declared.EDID.{EDID}
use Rattle.crate_head.specs.Head.{front}
use Rattle.crate_head.specs.Sizes.{takes_front}
use Rattle.crate_timings.specs.Established.{established}
use Rattle.crate_timings.specs.Pairs.{pairs}
use Rattle.crate_timings.specs.Sizes.{ends_established, ends_pairs}
use Rattle.crate_slots.specs.Slots.{slots, together}
use Rattle.crate_slots.specs.Sizes.{ten, long_points, how_many, no_more, Four, ends_slots}
use Rattle.crate_reading.specs.Reading.{Parts, parts, plain, reading, answer}

-- how many of the three later slots have tag 10; and how many tag fb, with a first index that is not zero and a second that is
abbrev pub tens : Parts → ℕ
tens p = how_many ten (drop 1 p.slots)

abbrev pub longs : Parts → ℕ
longs p = how_many long_points (drop 1 p.slots)

pub at_most_three : (p : Parts) → length p.slots ≡ 4 → tens p + longs p ≤ 3
at_most_three p h = omega (arith, no_more (drop 1 p.slots), length-drop 1 p.slots)

-- of the parts p, from m bytes
pub record Read (p : Parts) (m : ℕ) : Type 0 where
  pub exactly : m + 13 * tens p ≡ 127 + 5 * longs p
  pub slots : length p.slots ≡ 4
  pub fits : Fits (plain p)

ends_parts : Ends Read parts
unfolding parts plain
ends_parts =
    ends_then front _ (λ f m. (35 ≤ m) × (m ≤ 35)) _ takes_front
    (λ f m q. ends_then established _ (λ xs k. (length xs ≤ 17) × (k ≡ 3)) _ ends_established
    (λ e k r. ends_then (pairs 8) _ (λ xs j. (length xs ≤ 8) × (j ≡ 16)) _ (ends_pairs 8)
    (λ a j t. ends_then slots _ Four _ ends_slots
    (λ xs i u. ends_then byte _ (λ b h. (1 ≤ h) × (h ≤ 1)) _ takes_byte
    (λ n h v. record {
      exactly = omega (arith, q, r.1, t.1, u.exactly, v);
      slots = u.slots;
      fits = record {
        established = r.0;
        standard = omega (arith, length-append a (together xs).standards, t.0, u.standards);
        detailed = u.timings;
        points = u.points;
        descriptors = u.descriptors;
      };
    })))))

pub ends_reading : Ends (λ e m. Unit) reading
unfolding reading
ends_reading = ends_then parts _ Read _ ends_parts (λ p m r. tt)

parted : (o : Outcome Parts) (e : EDID) (n : ℕ) → and_then o (λ p m. got (holding (plain p)) m) ≡ got e n
    → (p : Parts) × (o ≡ got p n) × (e ≡ holding (plain p))
parted (got p m) e n h = (p, (cc), (cc))
parted (refused k m) e n h = let z : ◌≡◌ {A = ℕ} 0 1 = cc in absurd (omega arith)

-- a record is that of the parts read
pub parts_of : (s : List ℕ) (e : EDID) (n : ℕ) → answer s ≡ got e n → (p : Parts) × (run parts s 0 ≡ got p n) × (e ≡ holding (plain p))
unfolding reading
parts_of s e n h = parted (run parts s 0) e n (sym (run_bind parts (λ p. done (holding (plain p))) s 0) ∙ h)

pub read_of : (s : List ℕ) (p : Parts) (n : ℕ) → run parts s 0 ≡ got p n → Read p n
read_of s p n h =
    let q : Ended Read 0 (got p n) = subst (Ended Read 0) h (ends parts Read s 0 ends_parts) in
    let r = q.2 in
    record { exactly = omega (arith, q.1, r.exactly); slots = r.slots; fits = r.fits }
