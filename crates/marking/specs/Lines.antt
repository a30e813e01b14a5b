-- The marks of a block in words: a line for each mark that it has, in this order, and `none` alone where it has none.
use Rattle.std.specs.Prelude.{ℕ, Bool, not, ◌||◌, cond, List, [], ◌∷◌}
use Rattle.page.specs.Words.{text, newline, flat}
use Rattle.marking.specs.declared.Marks.{Marks}

-- a word on a line of its own where b holds, or nothing
unfoldable pub line_if : Bool → List ℕ → List ℕ
line_if b word = cond b (flat (word ∷ newline ∷ [])) []

-- whether there is a mark
abbrev pub one_of : Marks → Bool
one_of m = m.active || m.dummy || m.index || m.gamma || m.ratio || m.revision

unfoldable pub marks_lines : Marks → List ℕ
marks_lines m = flat (
    line_if m.active (text "active-low-zero")
    ∷ line_if m.dummy (text "tag-10")
    ∷ line_if m.index (text "white-index-0")
    ∷ line_if m.gamma (text "white-gamma-ff")
    ∷ line_if m.ratio (text "old-ratio-0")
    ∷ line_if m.revision (text "revision-4")
    ∷ line_if (not (one_of m)) (text "none")
    ∷ [])
