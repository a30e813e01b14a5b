-- The refusals of a step, by their numbers.
use Rattle.std.specs.Prelude.{ℕ, ◌≡◌, refl, cond, eqb, Result, Ok, Err}
use Rattle.std.proofs.Common.{sym, ap, ◌∙◌}
use Rattle.register.specs.declared.StepRefusal.{StepRefusal}
use Rattle.register.specs.declared.StepRefusal.TheVariants.{WrongLength, HasExtension, WrongByte}

abbrev pub refusal_number : StepRefusal → ℕ
refusal_number WrongLength = 15
refusal_number HasExtension = 16
refusal_number WrongByte = 17

-- the number that a step's answer tells, 0 where there is none
abbrev pub told : Result Unit StepRefusal → ℕ
told (Ok u) = 0
told (Err refusal) = refusal_number refusal

-- ---- at most one answer tells a number: it is had back from it

abbrev answer_of : ℕ → Result Unit StepRefusal
answer_of n = cond (eqb n 0) (Ok tt) (cond (eqb n 15) (Err WrongLength) (cond (eqb n 16) (Err HasExtension) (Err WrongByte)))

back : (r : Result Unit StepRefusal) → answer_of (told r) ≡ r
back (Ok u) = refl
back (Err WrongLength) = refl
back (Err HasExtension) = refl
back (Err WrongByte) = refl

pub one_told : {r r' : Result Unit StepRefusal} → told r ≡ told r' → r ≡ r'
one_told {r} {r'} e = sym (back r) ∙ ap answer_of e ∙ back r'
