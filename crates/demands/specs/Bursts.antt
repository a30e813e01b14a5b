-- Bursts, of the code's answers: what callers of the exported functions learn; and worked cases of what is told.
use Rattle.std.specs.Prelude.{ℕ, ◌≡◌, refl, take, drop, set, replicate, Some, None, Ok, Err}
use Rattle.std.proofs.Common.{sym, ap, ap₂, subst, ◌∙◌}
use mathlib.Core.List.{List, [], ◌∷◌, ◌++◌, flatten}
use Rattle.timing.specs.Axis.{back_porch, across_of, down_of}
use Rattle.steps.specs.Steps.{Outcome, got, refused}
use Rattle.steps.specs.Leaves.{byte, word, long, Beside}
use Rattle.steps.specs.Answers.{taken}
use Rattle.crate_record.specs.Filler.{blank}
use Rattle.crate_record.specs.declared.Reading.{Reading}
use Rattle.crate_reading.specs.Reading.{answer}
use Rattle.crate_head.specs.Head.{header}
use Rattle.crate_timings.specs.Pairs.{pair, pairs}
use Rattle.crate_text.specs.Text.{scan, padding, skip, span, text}
use Rattle.crate_detailed.specs.Detailed.{fitted, axes, timed, detailed}
use Rattle.crate_descriptors.specs.Descriptors.{spaces, closing, point_of, point, ended, second, points, white, string, raw, tagged, descriptor}
use Rattle.tags.specs.Tags.{tag_of}
use Rattle.crate_end.specs.Ends.{piece, pieces_from, went}
use Rattle.bursts.specs.Bursts.{Report, Standing, held, standing, report_of, told, fresh, grow, after}
use Rattle.bursts.specs.Theorems.{Made, made_new, made_take}
use Rattle.bursts.proofs.Theorems.{joined}
use contract.Lifetimes.{Lfts}
use Rattle.std.specs.Borrow.{Bor, MutBor}
use Rattle.bursts.proofs.finish.Reads as finish
use Rattle.exports.proofs.edid_burst.Reads as edid_burst
use Rattle.exports.proofs.edid_burst_number.Reads as burst_number
use Rattle.exports.proofs.edid_burst_taken.Reads as burst_taken
use Rattle.exports.specs.Numbers.{number_of, number_told}
use Rattle.demands.specs.Specimen.{specimen}
use Rattle.demands.specs.Cases.{longest}

-- ---- the calls, by what their contracts tell a caller

-- a call of `edid_burst` may be made on the state s and the burst b; the caller learns that it answers r, and leaves the state t
abbrev pub Burst : List ℕ → List ℕ → ℕ → List ℕ → Type 0
Burst s b r t =
    (κs : Lfts 2) × (before : MutBor (List ℕ)) × (burst : Bor (List ℕ)) × (later : MutBor (List ℕ)) × (before.now ≡ s) × (burst.now ≡ b) × (later.now ≡ t)
    × edid_burst.Asked κs (before, (burst, tt)) × edid_burst.Learnt κs (before, (burst, tt)) r (later, (burst, tt))

-- and at the end of `edid_burst_number` and `edid_burst_taken`
abbrev AtEnd : (Lfts 1 → Bor (List ℕ) × Unit {0} → Type 0) → (Lfts 1 → Bor (List ℕ) × Unit {0} → ℕ → Bor (List ℕ) × Unit {0} → Type 0) → List ℕ → ℕ → Type 0
AtEnd asked learnt s r = (κs : Lfts 1) × (state : Bor (List ℕ)) × (state.now ≡ s) × asked κs (state, tt) × learnt κs (state, tt) r (state, tt)

abbrev pub Number : List ℕ → ℕ → Type 0
Number = AtEnd burst_number.Asked burst_number.Learnt

abbrev pub Taken : List ℕ → ℕ → Type 0
Taken = AtEnd burst_taken.Asked burst_taken.Learnt

-- zeros that were handed these bursts, one call after the other, became the state t
pub data Calls : List (List ℕ) → List ℕ → Type 0 where
  none : Calls [] (replicate 146 0)
  call : {bs : List (List ℕ)} {b : List ℕ} {r : ℕ} {s t : List ℕ} → Calls bs s → Burst s b r t → Calls (bs ++ (b ∷ [])) t

made : {bs : List (List ℕ)} {t : List ℕ} → Calls bs t → Made t bs
made none = made_new
made (call {bs} {b} {r} {s} {t} cs (κs, before, burst, later, e, f, g, _, l)) =
    made_take s t bs b (made cs) (ap standing (sym g) ∙ l.0 ∙ ap₂ (λ x y. grow (standing x) y) e f)

-- after each call the answer is what stands then, as a number: `reported-then` says when it is which
pub call_tells : {bs : List (List ℕ)} {b : List ℕ} {r : ℕ} {s t : List ℕ} → Calls bs s → Burst s b r t → r ≡ number_told (told (after (bs ++ (b ∷ []))).stage)
call_tells cs (κs, before, burst, later, e, f, g, h, l) =
    l.1 ∙ ap (λ (x : List ℕ). number_told (told (standing x).stage)) g
    ∙ ap (λ (a : Standing). number_told (told a.stage)) (made (call cs (κs, before, burst, later, e, f, g, h, l)))

-- at the end it is the number, and the bytes taken, of the bursts joined
pub end_tells : {bs : List (List ℕ)} {t : List ℕ} {n : ℕ} → Calls bs t → Number t n → n ≡ number_of (answer (flatten bs))
end_tells {bs} {t} cs (κs, state, e, _, l) = l ∙ ap (λ (x : List ℕ). number_of (answer (held x))) e ∙ ap number_of (joined t bs (made cs))

pub end_taken : {bs : List (List ℕ)} {t : List ℕ} {n : ℕ} → Calls bs t → Taken t n → n ≡ taken (answer (flatten bs))
end_taken {bs} {t} cs (κs, state, e, _, l) = l ∙ ap (λ (x : List ℕ). taken (answer (held x))) e ∙ ap taken (joined t bs (made cs))

-- the number told is that of the answer, as the end has it
pub told_number : {A : Type 0} (o : Outcome A) → number_told (report_of o) ≡ number_of o
told_number (got a n) = refl
told_number (refused k n) = refl

-- nothing is asked of a caller
pub asked : (κs : Lfts 2) (state : MutBor (List ℕ)) (burst : Bor (List ℕ)) → edid_burst.Asked κs (state, (burst, tt))
asked κs state burst = tt

pub asked_at_end : (κs : Lfts 1) (state : Bor (List ℕ)) → burst_number.Asked κs (state, tt) × burst_taken.Asked κs (state, tt)
asked_at_end κs state = (tt, tt)

-- and in Rattle, with the record, to the last field
pub finish_tells : (bs : List (List ℕ)) (κs : Lfts 1) (state : Bor (List ℕ)) (r : Reading) → Made state.now bs → finish.Learnt κs (state, tt) r (state, tt)
    → Beside blank r.edid r.end (answer (flatten bs))
finish_tells bs κs state r m l = subst (Beside blank r.edid r.end) (joined state.now bs m) l

-- ---- worked cases, as entries of one list under one claim: antt computes each

-- some bursts, and what is told after each
pub record Case : Type 0 where
  pub bursts : List (List ℕ)
  pub reports : List Report

abbrev pub each_told : Standing → List (List ℕ) → List Report
each_told a [] = []
each_told a (b ∷ bs) = told (grow a b).stage ∷ each_told (grow a b) bs

abbrev pub Hold : List Case → Type 0
Hold [] = Unit {0}
Hold (c ∷ cs) = (each_told fresh c.bursts ≡ c.reports) × Hold cs

unfoldable pub cases : List Case
cases =
    -- the header's first half is wrong: its last byte is awaited, and nothing that comes after it is of account
    record {
      bursts = (0 ∷ 0xff ∷ []) ∷ [] ∷ (0xff ∷ 0xfe ∷ []) ∷ specimen ∷ [];
      reports = None ∷ None ∷ Some (Err (record { number = 2; at = 4 })) ∷ Some (Err (record { number = 2; at = 4 })) ∷ [];
    } ∷
    -- the specimen is accepted by its byte 126, and then another block comes
    record {
      bursts = take 126 specimen ∷ [] ∷ take 1 (drop 126 specimen) ∷ [] ∷ set specimen 0 1 ∷ [];
      reports = None ∷ None ∷ Some (Ok 127) ∷ Some (Ok 127) ∷ Some (Ok 127) ∷ [];
    } ∷
    -- the longest block, to its last byte
    record { bursts = take 141 longest ∷ drop 141 longest ∷ []; reports = None ∷ Some (Ok 142) ∷ [] } ∷
    []

pub cases_hold : Hold cases
unfolding cases specimen longest byte word long header pair pairs scan padding skip span text fitted axes timed detailed spaces closing point_of point ended second points white string raw tagged descriptor tag_of piece pieces_from went back_porch across_of down_of
cases_hold = (refl, (refl, (refl, tt)))
