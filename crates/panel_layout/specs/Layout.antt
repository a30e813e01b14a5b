-- Which line of a panel's text stands where. Of the lines that count, the first seven are of the kinds 0 to 6; then come white points, the line of the
-- established timings, standard timings, detailed timings, descriptors, and the line of the extensions, which is the last.
use Rattle.std.specs.Prelude.{ℕ, zero, suc, ◌+◌, Bool, cond, ◌&&◌, List, [], eqb, leb, ltb, length, get_or, Result, Ok, Err}
use Rattle.panel_forms.specs.Forms.{is_line}
use Rattle.panel_layout.specs.declared.Places.{Places}

-- how many lines from the place k on pass a test one after the other, at most n
unfoldable pub run_by : (ℕ → List ℕ → Bool) → ℕ → List (List ℕ) → ℕ → ℕ
run_by test zero ls k = 0
run_by test (suc n) ls k = cond (test k (get_or ls k [])) (suc (run_by test n ls (k + 1))) 0

-- being of a kind
abbrev pub run : ℕ → ℕ → List (List ℕ) → ℕ → ℕ
run kind = run_by (λ k. is_line kind)

-- being of the kind that has the place's number
abbrev pub heads : ℕ → List (List ℕ) → ℕ → ℕ
heads = run_by is_line

-- a list goes on while its lines do, and it has room
unfoldable pub places_of : List (List ℕ) → Places
places_of ls =
    let established = 7 + run 7 6 ls 7 in
    let pairs = established + 1 in
    let timings = pairs + run 9 26 ls pairs in
    let entries = timings + run 10 4 ls timings in
    record { established = established; pairs = pairs; timings = timings; entries = entries; extensions = entries + run 11 3 ls entries }

-- the first place where no line is of the kind that is due; behind the extensions nothing is
unfoldable pub wrong_at : List (List ℕ) → Places → ℕ
wrong_at ls p =
    cond (ltb (heads 7 ls 0) 7) (heads 7 ls 0)
    (cond (is_line 8 (get_or ls p.established []))
    (cond (is_line 12 (get_or ls p.extensions [])) (p.extensions + 1) p.extensions)
    p.established)

unfoldable pub layout_by : List (List ℕ) → Places → Result Places ℕ
layout_by ls p = cond (eqb (wrong_at ls p) (p.extensions + 1) && leb (length ls) (p.extensions + 1)) (Ok p) (Err (wrong_at ls p))

unfoldable pub layout_of : List (List ℕ) → Result Places ℕ
layout_of ls = layout_by ls (places_of ls)
