-- How many bytes an accepted input takes: the number that callers get, which transfers suffice, and which numbers occur, each with a block.
use Prim.Native.Nat.{ℕ, zero, suc, ◌+◌, ◌*◌, ◌≤◌, ◌<◌}
use Rattle.std.specs.Prelude.{◌≡◌, Bool, true, false, ◌||◌, eqb, take, Ok}
use Rattle.std.proofs.Math.Path.{refl}
use Rattle.std.proofs.Common.{sym, ap, ◌∙◌, subst, arith, take-take}
use mathlib.Core.List.{List, [], ◌∷◌, flatten}
use contract.Lifetimes.{Lfts}
use Rattle.std.specs.Borrow.{Bor}
use Rattle.timing.specs.Axis.{back_porch, across_of, down_of}
use Rattle.steps.specs.Steps.{got, refused, run}
use Rattle.steps.specs.Leaves.{byte, word, long, ended}
use Rattle.steps.specs.Answers.{taken}
use Rattle.crate_record.specs.declared.EDID.{EDID}
use Rattle.crate_record.specs.declared.Reading.{Reading}
use Rattle.crate_head.specs.Head.{header, maker, date, product, version, input, dpms, display, color, front}
use Rattle.crate_timings.specs.Established.{established}
use Rattle.crate_timings.specs.Pairs.{pair, pairs}
use Rattle.crate_text.specs.Text.{scan, padding, skip, span, text}
use Rattle.crate_detailed.specs.Detailed.{fitted, axes, timed, detailed}
use Rattle.tags.specs.Tags.{tag_of}
use Rattle.crate_descriptors.specs.Descriptors.{spaces, closing, point_of, point, ended as skipped, second, points, white, tagged, descriptor}
use Rattle.crate_slots.specs.Slots.{later, slots}
use Rattle.crate_reading.specs.Reading.{Parts, parts, reading, answer}
use Rattle.crate_reading.specs.Sizes.{tens, longs, at_most_three}
use Rattle.exports.specs.Numbers.{number_of, zero_is_accepted}
use Rattle.crate_reading.proofs.read.Reads as read
use Rattle.exports.proofs.edid_refusal_number.Reads as refusal_number
use Rattle.exports.proofs.edid_bytes_taken.Reads as bytes_taken
use Rattle.demands.specs.Specimen.{specimen}
use Rattle.demands.specs.Cases.{tag_10, tag_fb, long_fb, laid}
use Rattle.demands.specs.Demands.{cut_is_out_of_data, same_bytes_same_answer, Exact, exact_bytes}
use Rattle.demands.specs.Sums.{Answers}
use Rattle.demands.specs.Bursts.{Number, Taken, Calls, end_tells, end_taken}

-- ---- the number that callers get

-- in Rattle, where `read` accepts
pub read_exactly : (κs : Lfts 1) (block : Bor (List ℕ)) (r : Reading) (n : ℕ) → read.Learnt κs (block, tt) r (block, tt)
    → r.end ≡ Ok n → Exact block.now n
read_exactly κs block r n l e = exact_bytes block.now r.edid n (sym l.answer ∙ ap (ended r.edid) e)

-- what the exported functions answer of the bytes s, by their contracts
abbrev pub RefusalNumber : List ℕ → ℕ → Type 0
RefusalNumber = Answers refusal_number.Asked refusal_number.Learnt

abbrev pub BytesTaken : List ℕ → ℕ → Type 0
BytesTaken = Answers bytes_taken.Asked bytes_taken.Learnt

pub answered : (s : List ℕ) → RefusalNumber s (number_of (answer s)) × BytesTaken s (taken (answer s))
answered s = let slice : Bor (List ℕ) = record { ref_ptr = (0, 0); now = s } in ((([], tt), slice, refl, tt, refl), (([], tt), slice, refl, tt, refl))

accepted_exactly : (s : List ℕ) → number_of (answer s) ≡ 0 → Exact s (taken (answer s))
accepted_exactly s z = let a = zero_is_accepted s z in exact_bytes s a.0 (taken (answer s)) a.1

-- what `edid_bytes_taken` returns of bytes of which `edid_refusal_number` returns 0
pub returned_exactly : {s : List ℕ} {n : ℕ} → RefusalNumber s 0 → BytesTaken s n → Exact s n
returned_exactly {s} (_, a, e, _, z) (_, b, f, _, l) =
    subst (Exact s) (sym (l ∙ ap (λ (x : List ℕ). taken (answer x)) f)) (accepted_exactly s (sym (z ∙ ap (λ (x : List ℕ). number_of (answer x)) e)))

-- and so `edid_burst_taken`, of the bursts joined
pub returned_of_bursts : {bs : List (List ℕ)} {t : List ℕ} {n : ℕ} → Calls bs t → Number t 0 → Taken t n → Exact (flatten bs) n
returned_of_bursts {bs} cs z l = subst (Exact (flatten bs)) (sym (end_taken cs l)) (accepted_exactly (flatten bs) (sym (end_tells cs z)))

-- ---- which transfers suffice: for every answer those of 142 bytes (`first-142` of crate_depth)

-- of an accepted input those of n bytes or more, and no others
pub transfer : (s : List ℕ) (e : EDID) (n k : ℕ) → answer s ≡ got e n → (n ≤ k → answer (take k s) ≡ got e n) × (k < n → answer (take k s) ≡ refused 1 k)
transfer s e n k h =
    let t : taken (answer s) ≡ n = ap taken h in (
      λ i. same_bytes_same_answer s (take k s) (λ m q. let z : ◌≡◌ {A = ℕ} 0 1 = cc in absurd (omega arith)) (take-take (taken (answer s)) k s (omega arith)) ∙ h,
      λ i. cut_is_out_of_data s k (omega arith),
    )

-- so its first 128, unless a later slot has tag fb as above and none has tag 10
pub one_block : (s : List ℕ) (e : EDID) (n : ℕ) → answer s ≡ got e n
    → (p : Parts) × (run parts s 0 ≡ got p n) × (longs p ≡ 0 → answer (take 128 s) ≡ got e n) × (1 ≤ tens p → answer (take 128 s) ≡ got e n)
    × (tens p ≡ 0 → 1 ≤ longs p → answer (take 128 s) ≡ refused 1 128)
one_block s e n h =
    let q = exact_bytes s e n h in
    let t = at_most_three q.0 q.2 in
    let u = transfer s e n 128 h in
    (q.0, q.1, (λ a. u.0 (omega (arith, q.3))), (λ a. u.0 (omega (arith, q.3, t))), (λ a b. u.1 (omega (arith, q.3))))

-- ---- which numbers occur

-- a block, and how many bytes it takes
pub record Length : Type 0 where
  pub block : List ℕ
  pub bytes : ℕ

unfoldable pub lengths : List Length
lengths =
    record { block = laid tag_10 tag_10 tag_10; bytes = 88 } ∷
    record { block = laid tag_10 tag_10 (tag_fb 0 0 []); bytes = 101 } ∷
    record { block = laid long_fb tag_10 tag_10; bytes = 106 } ∷
    record { block = laid (tag_fb 0 1 []) tag_10 (tag_fb 1 1 []); bytes = 114 } ∷
    record { block = laid tag_10 (tag_fb 1 1 []) long_fb; bytes = 119 } ∷
    record { block = laid long_fb long_fb tag_10; bytes = 124 } ∷
    record { block = laid (tag_fb 0 0 []) (tag_fb 0 1 []) (tag_fb 1 1 []); bytes = 127 } ∷
    record { block = laid (tag_fb 1 1 []) (tag_fb 0 0 []) long_fb; bytes = 132 } ∷
    record { block = laid long_fb (tag_fb 0 1 []) long_fb; bytes = 137 } ∷
    record { block = laid long_fb long_fb long_fb; bytes = 142 } ∷
    []

-- each with a block
abbrev pub Occur : List Length → Type 0
Occur [] = Unit {0}
Occur (l ∷ ls) = ((e : EDID) × (answer l.block ≡ got e l.bytes)) × Occur ls

pub each_occurs : Occur lengths
unfolding lengths specimen byte word long header maker date product version input dpms display color front established pair pairs scan padding skip span text fitted axes timed detailed spaces closing point_of point skipped second points white tagged descriptor tag_of later slots parts reading back_porch across_of down_of
each_occurs = ((_, refl), ((_, refl), ((_, refl), ((_, refl), ((_, refl), ((_, refl), ((_, refl), ((_, refl), ((_, refl), ((_, refl), tt))))))))))

-- and no other
abbrev pub among : ℕ → List Length → Bool
among n [] = false
among n (l ∷ ls) = eqb n l.bytes || among n ls

module _ (n : ℕ) where
  is : (k : ℕ) → n ≡ k → among k lengths ≡ true → among n lengths ≡ true
  is k e h = ap (λ (x : ℕ). among x lengths) e ∙ h

  one_of : (a b : ℕ) → n + 13 * a ≡ 127 + 5 * b → a + b ≤ 3 → among n lengths ≡ true
  unfolding lengths
  one_of zero zero e h = is 127 (omega arith) refl
  one_of zero (suc zero) e h = is 132 (omega arith) refl
  one_of zero (suc (suc zero)) e h = is 137 (omega arith) refl
  one_of zero (suc (suc (suc zero))) e h = is 142 (omega arith) refl
  one_of zero (suc (suc (suc (suc b)))) e h = absurd (omega arith)
  one_of (suc zero) zero e h = is 114 (omega arith) refl
  one_of (suc zero) (suc zero) e h = is 119 (omega arith) refl
  one_of (suc zero) (suc (suc zero)) e h = is 124 (omega arith) refl
  one_of (suc zero) (suc (suc (suc b))) e h = absurd (omega arith)
  one_of (suc (suc zero)) zero e h = is 101 (omega arith) refl
  one_of (suc (suc zero)) (suc zero) e h = is 106 (omega arith) refl
  one_of (suc (suc zero)) (suc (suc b)) e h = absurd (omega arith)
  one_of (suc (suc (suc zero))) zero e h = is 88 (omega arith) refl
  one_of (suc (suc (suc zero))) (suc b) e h = absurd (omega arith)
  one_of (suc (suc (suc (suc a)))) b e h = absurd (omega arith)

pub one_of_ten : (s : List ℕ) (e : EDID) (n : ℕ) → answer s ≡ got e n → among n lengths ≡ true
one_of_ten s e n h = let q = exact_bytes s e n h in one_of n (tens q.0) (longs q.0) q.3 (at_most_three q.0 q.2)
