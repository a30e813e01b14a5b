-- A run of no frames, and of one more.
use Rattle.std.proofs.Common.{◌≡◌, ℕ, ◌+◌, List, take, refl, subst, add-one}
use Rattle.std.specs.Prelude.{Option}
use Rattle.frames.specs.Frame.{ReadsFrame}
use Rattle.frames.specs.Answer.{Answer, Writes}
use Rattle.frames.specs.Run.{AnswersEach}
use Rattle.frames.specs.declared.Came.TheVariants.{All}

pub none : (answer : Answer) (left held : Option (List ℕ)) → AnswersEach answer 0 left left held held
unfolding AnswersEach
none answer left held = (refl, refl)

pub one_more : (answer : Answer) (n k : ℕ) (a b c x y z : Option (List ℕ)) (space frame : List ℕ) → AnswersEach answer n a b x y
    → ReadsFrame b c space (All k) → frame ≡ take k space → Writes answer frame y z → AnswersEach answer (n + 1) a c x z
unfolding AnswersEach
one_more answer n k a b c x y z space frame before read same written =
    rw (add-one n) (b, y, before, (space, k, read, subst (λ (s : List ℕ). Writes answer s y z) same written))
