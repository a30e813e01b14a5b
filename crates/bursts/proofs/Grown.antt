-- What a reader tells after bursts: nothing where their bytes are out of data, and else their answer.
use Rattle.std.specs.Prelude.{ℕ, ◌≡◌, refl, take, None}
use Rattle.std.proofs.Common.{◌∙◌, ap, arith}
use mathlib.Core.List.{List, flatten}
use Rattle.steps.specs.Steps.{Outcome, got, refused}
use Rattle.steps.specs.Answers.{Enough}
use Rattle.crate_reading.specs.Reading.{answer}
use Rattle.crate_end.specs.Ends.{end_of, Went, went}
use Rattle.crate_end.specs.Whole.{ends_so}
use Rattle.crate_depth.specs.Whole.{first_142}
use Rattle.bursts.specs.Bursts.{amid, report_of, told, end_or, settled, after}
use Rattle.bursts.specs.Grown.{settled_enough, so_far, stands_for}

-- the end alone says as much
enough_end : {A : Type 0} (o : Outcome A) → Enough o → Enough (end_of o)
enough_end (got a n) e = λ m q. let z : ◌≡◌ {A = ℕ} 0 1 = cc in absurd (omega arith)
enough_end (refused k n) e = λ m q. let one : k ≡ 1 = cc in e n (ap (λ (j : ℕ). refused j n) one)

report_end : {A : Type 0} (o : Outcome A) → report_of (end_of o) ≡ report_of o
report_end (got a n) = refl
report_end (refused k n) = refl

told_nothing : (w : Went) (n : ℕ) → w.end ≡ refused 1 n → told (settled w) ≡ None
told_nothing w n e = ap (λ (o : Outcome Unit). told (end_or o (amid w.piece w.at))) e

told_end : {A : Type 0} (w : Went) (o : Outcome A) → w.end ≡ end_of o → Enough o → told (settled w) ≡ report_of o
told_end w o q e =
    ap (λ (x : Outcome Unit). told (end_or x (amid w.piece w.at))) q
    ∙ ap told (settled_enough (end_of o) (amid w.piece w.at) (enough_end o e)) ∙ report_end o

-- how the reading of what came ends is how that of their bytes does
so_far_end : (s : List ℕ) → (went 5 0 (take 142 s) 0).end ≡ end_of (answer s)
so_far_end s = ends_so (take 142 s) ∙ ap end_of (first_142 s)

-- nothing is told where the bytes are out of data, and else their answer is
pub says_nothing : (bs : List (List ℕ)) (n : ℕ) → answer (flatten bs) ≡ refused 1 n → told (after bs).stage ≡ None
unfolding so_far
says_nothing bs n e =
    ap (λ a. told a.stage) (stands_for bs) ∙ told_nothing (went 5 0 (take 142 (flatten bs)) 0) n (so_far_end (flatten bs) ∙ ap end_of e)

pub says : (bs : List (List ℕ)) → Enough (answer (flatten bs)) → told (after bs).stage ≡ report_of (answer (flatten bs))
unfolding so_far
says bs e =
    ap (λ a. told a.stage) (stands_for bs) ∙ told_end (went 5 0 (take 142 (flatten bs)) 0) (answer (flatten bs)) (so_far_end (flatten bs)) e
