-- Worked cases, of a board with the limits 40 MHz, 800 pixels and 600 lines: antt computes the chooser's answer.
use Rattle.std.specs.Prelude.{ℕ, ◌≤◌, ◌≡◌, Bool, true, false, List, [], ◌∷◌, map}
use Rattle.std.proofs.Common.{arith}
use Rattle.timing.specs.Axis.{pixels, lines}
use Rattle.standard_record.specs.Filler.{blank_timing}
use Rattle.standard_record.specs.declared.DetailedTiming.{DetailedTiming}
use Rattle.standard_record.specs.Lists.{DetailedTimings}
use Rattle.picking.specs.Best.{Best, NoneQualifies, Accepts, listed}
use Rattle.picking.specs.Score.{chooses}
use Rattle.picking.specs.Promises.{one_best, past_the_list}
use Rattle.picking.specs.declared.Limits.{Limits}

abbrev board : Limits
board = record { clock = 40000000; across = pixels 800; down = lines 600 }

-- a timing of which only this is told
abbrev mode : ℕ → ℕ → ℕ → Bool → DetailedTiming
mode clock across down interlaced = record {
  clock = clock;
  across = record { active = pixels across; front = pixels 0; sync = pixels 0; back = pixels 0 };
  down = record { active = lines down; front = lines 0; sync = lines 0; back = lines 0 };
  size = blank_timing.size;
  border = blank_timing.border;
  interlaced = interlaced;
  stereo = blank_timing.stereo;
  sync = blank_timing.sync;
}

abbrev only : DetailedTiming → List DetailedTiming
only t = t ∷ []

-- equal to each limit
equal_to_each : Best board (only (mode 40000000 800 600 false)) 0
equal_to_each = chooses board (only (mode 40000000 800 600 false))

-- one over each
over_the_clock : NoneQualifies board (only (mode 40000001 800 600 false))
over_the_clock = (chooses board (only (mode 40000001 800 600 false))).1

over_across : NoneQualifies board (only (mode 40000000 801 600 false))
over_across = (chooses board (only (mode 40000000 801 600 false))).1

over_down : NoneQualifies board (only (mode 40000000 800 601 false))
over_down = (chooses board (only (mode 40000000 800 601 false))).1

-- interlaced, or no pixels on an axis
interlaced_only : NoneQualifies board (only (mode 40000000 800 600 true))
interlaced_only = (chooses board (only (mode 40000000 800 600 true))).1

zero_width : NoneQualifies board (only (mode 40000000 0 600 false))
zero_width = (chooses board (only (mode 40000000 0 600 false))).1

zero_height : NoneQualifies board (only (mode 40000000 800 0 false))
zero_height = (chooses board (only (mode 40000000 800 0 false))).1

-- none at all
empty_list : NoneQualifies board []
empty_list = (chooses board []).1

-- 240,000 pixels three times, and fewer before them: the first of the three
abbrev equals : List DetailedTiming
equals = mode 1 100 100 false ∷ mode 40000000 600 400 false ∷ mode 2 400 600 false ∷ mode 40000000 600 400 false ∷ []

equal_areas : Best board equals 1
equal_areas = chooses board equals

later_equal : Accepts board equals 2 false
later_equal = λ b. absurd (omega (arith, one_best board equals equal_areas b))

-- the last of four, behind one that is larger and does not qualify
last_of_four : Best board (mode 1 640 480 false ∷ mode 1 801 600 false ∷ mode 1 799 600 false ∷ mode 1 800 600 false ∷ []) 3
last_of_four = chooses board (mode 1 640 480 false ∷ mode 1 801 600 false ∷ mode 1 799 600 false ∷ mode 1 800 600 false ∷ [])

-- an index past the list
past_one : (i : ℕ) (r : Bool) → 1 ≤ i → Accepts board (only (mode 40000000 800 600 false)) i r → r ≡ false
past_one i r h = past_the_list board (only (mode 40000000 800 600 false)) i r (omega arith)

-- a record's list: a length above its size counts as its size, and what stands past the length does not count
abbrev list : ℕ → DetailedTimings
list len = record {
  items = map (λ t. record { timing = t; slot = 1 }) (mode 1 640 480 false ∷ mode 1 641 480 false ∷ mode 1 642 480 false ∷ mode 1 643 480 false ∷ []);
  len = len;
}

said_too_long : Best board (listed (list 18446744073709551615)) 3
said_too_long = chooses board (listed (list 18446744073709551615))

said_two : Best board (listed (list 2)) 1
said_two = chooses board (listed (list 2))
