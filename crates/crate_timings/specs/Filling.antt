-- Nothing to believe: pairs that are filled into a list are the plain ones, pushed one after the other; and a turn of the code's loop.
use Rattle.std.specs.Prelude.{ℕ, zero, suc, ◌+◌, ◌-◌, ◌<◌, ◌≤◌, ◌≡◌, refl, List, [], ◌++◌, Option, Some, None, Result, Ok, Err}
use Rattle.std.proofs.Math.Path.{sym, ap}
use Rattle.std.proofs.Common.{◌∙◌}
use Rattle.fixed.specs.Fixed.{push, pushed, pushed_fixed}
use Rattle.steps.specs.Steps.{done, ◌>>=◌, map}
use Rattle.steps.specs.Laws.{zero_left, then_then, then_same}
use Rattle.steps.specs.Laws as Turns
use Rattle.steps.specs.Took.{Took, then, stop, as_of}
use Rattle.steps.specs.declared.Cursor.{Cursor}
use Rattle.steps.specs.declared.Refusal.{Refusal}
use Rattle.crate_record.specs.Filler.{blank_standard}
use Rattle.crate_record.specs.Lists.{StandardTimings, standard_timings}
use Rattle.crate_record.specs.declared.StandardTiming.{StandardTiming}
use Rattle.shared_record.specs.Established.{established_timings, flags_on}
use Rattle.steps.specs.Leaves.{byte, word}
use Rattle.crate_timings.specs.Established.{flags_of, established}
use Rattle.crate_timings.specs.Pairs.{pair, listed, pairs, with_pair, fill_pairs}

with_pair_pushed : (l : StandardTimings) (p : Option StandardTiming) (xs : List StandardTiming)
    → pushed (push 26) (with_pair l p) xs ≡ pushed (push 26) l (listed p ++ xs)
with_pair_pushed l None xs = refl
with_pair_pushed l (Some t) xs = refl

-- onto any list, those of the plain list
pub pairs_pushed : (n : ℕ) (l : StandardTimings) → fill_pairs n l ≡ map (pushed (push 26) l) (pairs n)
unfolding fill_pairs pairs
pairs_pushed zero l = refl
pairs_pushed (suc n) l =
    then_same pair (λ p.
    pairs_pushed n (with_pair l p) ∙ then_same (pairs n) (λ xs. ap done (with_pair_pushed l p xs))
    ∙ sym (then_then (pairs n) (λ xs. done (listed p ++ xs)) (λ xs. done (pushed (push 26) l xs))))
    ∙ sym (then_then pair (λ p. pairs n >>= (λ xs. done (listed p ++ xs))) (λ xs. done (pushed (push 26) l xs)))

pub pairs_filled : (n : ℕ) → map standard_timings (pairs n) ≡ fill_pairs n (standard_timings [])
pairs_filled n = sym (pairs_pushed n (standard_timings []) ∙ then_same (pairs n) (λ xs. ap done (pushed_fixed 26 blank_standard [] xs)))

-- ---- a loop over n pairs, in turn i

more : (n i : ℕ) (l : StandardTimings) → i < n → fill_pairs (n - i) l ≡ (pair >>= (λ p. fill_pairs (n - (i + 1)) (with_pair l p)))
unfolding fill_pairs
more n i l h = ap (λ (k : ℕ). fill_pairs k l) (Turns.more n i h)

-- the pair is refused, or is listed and the loop goes on
pub pair_refused : (n i : ℕ) (l : StandardTimings) {c c' : Cursor} {f : Refusal} {r : Result StandardTimings Refusal} → i < n
    → Took pair c (Err f) c' → r ≡ Err f → Took (fill_pairs (n - i) l) c r c'
pair_refused n i l h t e = as_of (more n i l h) (stop _ t e)

pub pair_listed : (n i : ℕ) (l : StandardTimings) {c c' c'' : Cursor} {p : Option StandardTiming} {b : StandardTimings} {r : Result StandardTimings Refusal}
    → i < n → Took pair c (Ok p) c' → with_pair l p ≡ b → Took (fill_pairs (n - (i + 1)) b) c' r c'' → Took (fill_pairs (n - i) l) c r c''
pair_listed n i l h t q u = as_of (more n i l h) (then _ t (as_of (ap (fill_pairs (n - (i + 1))) q) u))

pub no_more : (n i : ℕ) (l : StandardTimings) → n ≤ i → fill_pairs (n - i) l ≡ done l
unfolding fill_pairs
no_more n i l h = ap (λ (k : ℕ). fill_pairs k l) (zero_left n i h)

-- ---- flags

pub established_filled : map established_timings established
    ≡ (word >>= (λ ft. byte >>= (λ last. done (established_timings (flags_on ft last)))))
unfolding established flags_of word byte
established_filled = refl
