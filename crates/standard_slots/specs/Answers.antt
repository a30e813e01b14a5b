-- What the answers of the code say, and that at most one says a thing.
use Rattle.std.specs.Prelude.{ℕ, Result, Ok, Err, List, [], ◌∷◌, ◌≡◌, refl}
use Rattle.std.proofs.Common.{sym, ap, ◌∙◌}
use Rattle.standard_record.specs.declared.StandardTiming.{StandardTiming}
use Rattle.standard_record.specs.declared.WhitePoint.{WhitePoint}
use Rattle.standard_slots.specs.Said.{Said, refusal, nothing, timing, pairs, points, described}
use Rattle.standard_slots.specs.declared.Points.{Points}
use Rattle.standard_slots.specs.declared.Points.TheVariants.{None, One, Two}
use Rattle.standard_slots.specs.declared.Slot.{Slot}

abbrev pub of_points : Points → List WhitePoint
of_points None = []
of_points (One p) = p ∷ []
of_points (Two p q) = p ∷ q ∷ []

-- with these pairs, which are read where they are listed
abbrev pub of_slot : List StandardTiming → Result Slot ℕ → Said
of_slot ps (Err n) = refusal n
of_slot ps (Ok Slot.Nothing) = nothing
of_slot ps (Ok (Slot.Timing d)) = timing d
of_slot ps (Ok Slot.Pairs) = pairs ps
of_slot ps (Ok (Slot.Points ws)) = points (of_points ws)
of_slot ps (Ok (Slot.Described d)) = described d

-- ---- at most one answer says x: it is had back from what it says

abbrev two_of : List WhitePoint → Points
two_of [] = None
two_of (p ∷ []) = One p
two_of (p ∷ q ∷ ws) = Two p q

abbrev slot_of : Said → Result Slot ℕ
slot_of (refusal n) = Err n
slot_of nothing = Ok Slot.Nothing
slot_of (timing d) = Ok (Slot.Timing d)
slot_of (pairs ps) = Ok Slot.Pairs
slot_of (points ws) = Ok (Slot.Points (two_of ws))
slot_of (described d) = Ok (Slot.Described d)

two_back : (ps : Points) → two_of (of_points ps) ≡ ps
two_back None = refl
two_back (One p) = refl
two_back (Two p q) = refl

back : (ps : List StandardTiming) (r : Result Slot ℕ) → slot_of (of_slot ps r) ≡ r
back ps (Err n) = refl
back ps (Ok Slot.Nothing) = refl
back ps (Ok (Slot.Timing d)) = refl
back ps (Ok Slot.Pairs) = refl
back ps (Ok (Slot.Points ws)) = ap (λ x. Ok (Slot.Points x)) (two_back ws)
back ps (Ok (Slot.Described d)) = refl

pub one_slot : (ps : List StandardTiming) (x : Said) (r r' : Result Slot ℕ) → of_slot ps r ≡ x → of_slot ps r' ≡ x → r ≡ r'
one_slot ps x r r' e e' = sym (back ps r) ∙ ap slot_of (e ∙ sym e') ∙ back ps r'
