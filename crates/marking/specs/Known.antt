-- Worked cases of the marks and of their words: antt computes each.
use Rattle.std.specs.Prelude.{ℕ, List, [], ◌++◌, ◌≡◌, refl, replicate, set}
use Rattle.page.specs.Words.{text, flat}
use Rattle.marking.specs.Marks.{marks_in}
use Rattle.marking.specs.Lines.{line_if, marks_lines}

abbrev listed : List ℕ → List ℕ
listed s = marks_lines (marks_in s)

-- of revision 3, no slot with a clock or a tag
abbrev plain : List ℕ
plain = set (replicate 128 0) 19 3

-- its last slot an fb slot, both points of index 1
abbrev points : List ℕ
points = set (set (set plain 111 0xfb) 113 1) 118 1

-- of revision 2, no pair listed
abbrev old : List ℕ
old = set (replicate 38 0 ++ replicate 16 1 ++ replicate 74 0) 19 2

slots :
    (listed plain ≡ text "none\n")
    × (listed (set plain 54 1) ≡ text "active-low-zero\n")
    × (listed (set (set plain 109 1) 110 1) ≡ text "none\n")
    × (listed (set plain 75 0x10) ≡ text "tag-10\n")
    × (listed (set plain 75 0x11) ≡ text "none\n")
    × (listed points ≡ text "none\n")
    × (listed (set points 113 0) ≡ text "white-index-0\n")
    × (listed (set points 118 0) ≡ text "white-index-0\n")
    × (listed (set points 117 0xff) ≡ text "white-gamma-ff\n")
    × (listed (set points 122 0xff) ≡ text "white-gamma-ff\n")
unfolding marks_in marks_lines line_if flat
slots = (refl, refl, refl, refl, refl, refl, refl, refl, refl, refl)

-- past the end every byte is 0, and so a pair
pairs :
    (listed old ≡ text "none\n")
    × (listed (set old 53 2) ≡ text "old-ratio-0\n")
    × (listed (set old 53 0x41) ≡ text "none\n")
    × (listed (set old 93 0xfa) ≡ text "old-ratio-0\n")
    × (listed (set (set old 53 2) 19 3) ≡ text "none\n")
    × (listed [] ≡ text "old-ratio-0\n")
unfolding marks_in marks_lines line_if flat
pairs = (refl, refl, refl, refl, refl, refl)

revisions :
    (listed (set plain 19 4) ≡ text "revision-4\n")
    × (listed (set plain 19 255) ≡ text "revision-4\n")
unfolding marks_in marks_lines line_if flat
revisions = (refl, refl)

-- but the last two, which no block has both of
every : listed (set (set (set (set (set old 53 2) 54 1) 75 0x10) 93 0xfb) 99 0xff)
    ≡ text "active-low-zero\ntag-10\nwhite-index-0\nwhite-gamma-ff\nold-ratio-0\n"
unfolding marks_in marks_lines line_if flat
every = refl
