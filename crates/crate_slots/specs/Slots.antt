-- The four slots, as the source reads them: what each says, and the plain lists of it.
use Rattle.std.specs.Prelude.{ℕ, zero, suc, List, [], ◌∷◌, ◌++◌, Option, Some, None}
use Rattle.fixed.specs.Fixed.{push, pushed}
use Rattle.steps.specs.Steps.{Steps, done, refuse, ◌>>=◌, ◌>>◌}
use Rattle.crate_record.specs.Lists.{StandardTimings, standard_timings, detailed_timings, white_points, descriptors}
use Rattle.crate_record.specs.declared.StandardTiming.{StandardTiming}
use Rattle.crate_record.specs.declared.DetailedTiming.{DetailedTiming}
use Rattle.crate_record.specs.declared.WhitePoint.{WhitePoint}
use Rattle.crate_record.specs.declared.MonitorDescriptor.{MonitorDescriptor}
use Rattle.crate_timings.specs.Pairs.{pairs}
use Rattle.crate_detailed.specs.Detailed.{detailed}
use Rattle.crate_descriptors.specs.Descriptors.{closing, descriptor}
use Rattle.crate_descriptors.specs.declared.Points.{Points}
use Rattle.crate_descriptors.specs.declared.Points.TheVariants.{One, Two}
use Rattle.crate_descriptors.specs.declared.Slot.{Slot}
use Rattle.crate_descriptors.specs.declared.Slot.TheVariants.{Nothing, Described, White, Six}
use Rattle.crate_slots.specs.declared.Lists.{Lists}

-- tag 10 says nothing, fa six pairs or fewer, fb one point or two
pub data Said : Type 0 where
  nothing : Said
  timing : DetailedTiming → Said
  standards : List StandardTiming → Said
  points : Points → Said
  described : MonitorDescriptor → Said

-- the six pairs of an fa slot are yet to be read
abbrev pub said_by : Slot → Steps Said
said_by Nothing = done nothing
said_by (Described d) = done (described d)
said_by (White ps) = done (points ps)
said_by Six = do
  xs ← pairs 6
  closing 0
  done (standards xs)

-- the first slot holds a timing
abbrev pub said_first : Option DetailedTiming → Steps Said
said_first None = refuse 3
said_first (Some t) = done (timing t)

-- a later one holds a timing or a descriptor
abbrev pub said_later : Option DetailedTiming → Steps Said
said_later None = do
  x ← descriptor
  said_by x
said_later (Some t) = done (timing t)

-- n later slots
unfoldable pub later : ℕ → Steps (List Said)
later zero = done []
later (suc n) = do
  t ← detailed
  x ← said_later t
  xs ← later n
  done (x ∷ xs)

unfoldable pub slots : Steps (List Said)
slots = do
  t ← detailed
  x ← said_first t
  xs ← later 3
  done (x ∷ xs)

-- ---- what is listed: each slot feeds one list at most

pub record Plain : Type 0 where
  pub standards : List StandardTiming
  pub timings : List DetailedTiming
  pub points : List WhitePoint
  pub descriptors : List MonitorDescriptor

-- in this order
abbrev four : List StandardTiming → List DetailedTiming → List WhitePoint → List MonitorDescriptor → Plain
four ss ts ws ds = record { standards = ss; timings = ts; points = ws; descriptors = ds }

abbrev pub lists : Said → Plain
lists nothing = four [] [] [] []
lists (timing t) = four [] (t ∷ []) [] []
lists (standards xs) = four xs [] [] []
lists (points (One p)) = four [] [] (p ∷ []) []
lists (points (Two p q)) = four [] [] (p ∷ q ∷ []) []
lists (described d) = four [] [] [] (d ∷ [])

abbrev joined : Plain → Plain → Plain
joined a b = four (a.standards ++ b.standards) (a.timings ++ b.timings) (a.points ++ b.points) (a.descriptors ++ b.descriptors)

-- all that the slots list, in order
abbrev pub together : List Said → Plain
together [] = four [] [] [] []
together (x ∷ xs) = joined (lists x) (together xs)

-- ---- for the contract of the reader, which is handed the standard timings a: the fixed lists

unfoldable pub no_lists : Lists
no_lists = record { standard = standard_timings []; detailed = detailed_timings []; points = white_points []; descriptors = descriptors [] }

unfoldable pub lists_after : StandardTimings → List Said → Lists
lists_after a xs = record {
  standard = pushed (push 26) a (together xs).standards;
  detailed = detailed_timings (together xs).timings;
  points = white_points (together xs).points;
  descriptors = descriptors (together xs).descriptors;
}
