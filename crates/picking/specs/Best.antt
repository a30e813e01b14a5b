-- Which timing to show, in the customer's words, over any list of timings.
use Rattle.std.specs.Prelude.{ℕ, zero, suc, ◌*◌, ◌<◌, ◌≤◌, min, ◌≡◌, Bool, true, false, List, [], ◌∷◌, map, take, Err, Ok}
use Rattle.standard_record.specs.declared.DetailedTiming.{DetailedTiming}
use Rattle.standard_record.specs.Lists.{DetailedTimings}
use Rattle.picking.specs.declared.Limits.{Limits}
use Rattle.picking.specs.Choice.{Choice}

-- the board can drive it: it keeps the three limits, is not interlaced, and has active pixels on both axes
pub record Qualifies (l : Limits) (t : DetailedTiming) : Type 0 where
  pub progressive : t.interlaced ≡ false
  pub clock : t.clock ≤ l.clock
  pub across : t.across.active.0 ≤ l.across.0
  pub down : t.down.active.0 ≤ l.down.0
  pub wide : 0 < t.across.active.0
  pub high : 0 < t.down.active.0

-- its active pixels in all
abbrev pub area : DetailedTiming → ℕ
area t = t.across.active.0 * t.down.active.0

-- x stands at this index of the list
abbrev pub At : {A : Type 0} → List A → ℕ → A → Type 0
At [] i x = ⊥
At (y ∷ ys) zero x = y ≡ x
At (y ∷ ys) (suc i) x = At ys i x

-- the index to show: its timing qualifies, and no other that does has more active pixels, nor as many at a lower index
pub record Best (l : Limits) (ts : List DetailedTiming) (i : ℕ) : Type 0 where
  pub timing : DetailedTiming
  pub there : At ts i timing
  pub qualifies : Qualifies l timing
  pub most : (j : ℕ) (t : DetailedTiming) → At ts j t → Qualifies l t → area t ≤ area timing
  pub first : (j : ℕ) (t : DetailedTiming) → At ts j t → Qualifies l t → area t ≡ area timing → i ≤ j

abbrev pub NoneQualifies : Limits → List DetailedTiming → Type 0
NoneQualifies l ts = (i : ℕ) (t : DetailedTiming) → At ts i t → Qualifies l t → ⊥

-- what the chooser answers: the index to show, or 14 where no timing qualifies
abbrev pub Chooses : Limits → List DetailedTiming → Choice → Type 0
Chooses l ts (Ok i) = Best l ts i
Chooses l ts (Err n) = (n ≡ 14) × NoneQualifies l ts

-- what the checker answers of an index: whether it is the one to show
abbrev pub Accepts : Limits → List DetailedTiming → ℕ → Bool → Type 0
Accepts l ts i true = Best l ts i
Accepts l ts i false = Best l ts i → ⊥

-- the timings of a record's list; a length above its size counts as that size
abbrev pub listed : DetailedTimings → List DetailedTiming
listed l = map (λ h. h.timing) (take (min l.len 4) l.items)
