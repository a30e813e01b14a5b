-- The lists of a panel's record, each from the lines of its text that tell its entries.
use Rattle.std.specs.Prelude.{ℕ, ◌+◌, ◌-◌, List, [], ◌∷◌, map, take, drop}
use Rattle.fixed.specs.Fixed.{pad}
use Rattle.page.specs.Words.{each}
use Rattle.text_words.specs.Words.{words}
use Rattle.text_lines.specs.Lines.{lines, counted}
use Rattle.text_kinds.specs.Kinds.{number_of}
use Rattle.shared_record.specs.Established.{established_timings}
use Rattle.shared_record.specs.Established.{EstablishedTimings}
use Rattle.standard_record.specs.Lists.{white_points, standard_timings, detailed_timings, descriptors}
use Rattle.standard_record.specs.Lists.{WhitePoints}
use Rattle.standard_record.specs.Lists.{StandardTimings}
use Rattle.standard_record.specs.Lists.{DetailedTimings}
use Rattle.standard_record.specs.declared.Held.{Held}
use Rattle.standard_record.specs.Lists.{Descriptors}
use Rattle.panel_entries.specs.Entries.{point_of, pair_of, held_timing_of, kept_in, kept_places, held_of}

-- of the lines that count those from a place on and before another
unfoldable pub between : List ℕ → ℕ → ℕ → List (List ℕ)
between s from to = take (to - from) (drop from (counted (lines s)))

-- ---- white points, standard timings, detailed timings: a line for each

unfoldable pub points_of : List ℕ → ℕ → ℕ → WhitePoints
points_of s from to = white_points (map point_of (between s from to))

unfoldable pub pairs_of : List ℕ → ℕ → ℕ → StandardTimings
pairs_of s from to = standard_timings (map pair_of (between s from to))

unfoldable pub timings_of : List ℕ → ℕ → ℕ → DetailedTimings
timings_of s from to = detailed_timings (map held_timing_of (between s from to))

-- ---- descriptors: each keeps its bytes in thirteen places of its own

-- the first from a place on
unfoldable pub held_from : ℕ → List (List ℕ) → List Held
held_from at [] = []
held_from at (l ∷ ls) = held_of l at ∷ held_from (at + 13) ls

unfoldable pub entries_of : List ℕ → ℕ → ℕ → Descriptors
entries_of s from to = descriptors (held_from 0 (between s from to))

-- the bytes of three, in their places
unfoldable pub bytes_of : List ℕ → ℕ → ℕ → List ℕ
bytes_of s from to = pad 39 0 (each (λ l. kept_places (kept_in l)) (between s from to))

-- ---- established timings: one line, a number for each behind its first word

unfoldable pub numbers_of : List ℕ → List ℕ
numbers_of l = map (number_of 255) (drop 1 (words l))

unfoldable pub established_of : List ℕ → EstablishedTimings
established_of l = established_timings (numbers_of l)
