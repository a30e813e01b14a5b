-- A page of 4,096 bytes that is lent, of which some are used, and what it is after bytes were appended.
use Rattle.std.specs.Prelude.{ℕ, ◌+◌, min, cond, List, [], ◌∷◌, ltb, set}
use Rattle.page.specs.declared.Page.{Page}

-- the same loan, with these bytes on it, of which n are used
abbrev pub holding : Page → List ℕ → ℕ → Page
holding p bytes n = record { out = record { ref_ptr = p.out.ref_ptr; ghost_name = p.out.ghost_name; now = bytes }; at = n }

-- one byte more; a full page stays as it is
unfoldable pub and : Page → ℕ → Page
and p b = holding p (cond (ltb p.at 4096) (set p.out.now p.at b) p.out.now) (min (p.at + 1) 4096)

-- bytes more, one after the other
infixl 30 ◌▷◌
unfoldable pub ◌▷◌ : Page → List ℕ → Page
p ▷ [] = p
p ▷ (b ∷ bs) = and p b ▷ bs
