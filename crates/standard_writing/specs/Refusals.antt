-- The refusals of the writer, by their numbers.
use Rattle.std.specs.Prelude.{ℕ, ◌≡◌, refl, cond, eqb, Result, Ok, Err}
use Rattle.std.proofs.Common.{sym, ap, ◌∙◌}
use Rattle.standard_writing.specs.declared.WriteRefusal.{WriteRefusal}
use Rattle.standard_writing.specs.declared.WriteRefusal.TheVariants.{WrongLength, NoBlock}

abbrev pub refusal_number : WriteRefusal → ℕ
refusal_number WrongLength = 10
refusal_number NoBlock = 11

-- the number that the writer's answer tells, 0 where the block is written
abbrev pub told : Result Unit WriteRefusal → ℕ
told (Ok u) = 0
told (Err refusal) = refusal_number refusal

-- ---- at most one answer tells a number: it is had back from it

abbrev answer_of : ℕ → Result Unit WriteRefusal
answer_of n = cond (eqb n 0) (Ok tt) (cond (eqb n 10) (Err WrongLength) (Err NoBlock))

back : (r : Result Unit WriteRefusal) → answer_of (told r) ≡ r
back (Ok u) = refl
back (Err WrongLength) = refl
back (Err NoBlock) = refl

pub one_told : {r r' : Result Unit WriteRefusal} → told r ≡ told r' → r ≡ r'
one_told {r} {r'} e = sym (back r) ∙ ap answer_of e ∙ back r'
