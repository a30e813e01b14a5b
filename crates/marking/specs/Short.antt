-- Every listing of marks is shorter than a page.
use Rattle.std.specs.Prelude.{ℕ, suc, ◌≤◌, Bool, true, false, not, List, ◌≡◌, length, take, drop}
use Rattle.std.proofs.Common.{arith, length-append}
use Rattle.page.specs.declared.Page.{Page}
use Rattle.page.specs.Page.{◌▷◌}
use Rattle.page.specs.Words.{text, flat}
use Rattle.page.specs.Meaning.{whole, only}
use Rattle.marking.specs.declared.Marks.{Marks}
use Rattle.marking.specs.Lines.{line_if, one_of, marks_lines}

line_length_lem : (b : Bool) (word : List ℕ) → length (line_if b word) ≤ suc (length word)
unfolding line_if flat
line_length_lem true word = simp length-append (omega arith)
line_length_lem false word = omega arith

short : (m : Marks) → length (marks_lines m) ≤ 80
unfolding marks_lines flat
short m =
    simp length-append
    (omega (
      arith,
      line_length_lem m.active (text "active-low-zero"),
      line_length_lem m.dummy (text "tag-10"),
      line_length_lem m.index (text "white-index-0"),
      line_length_lem m.gamma (text "white-gamma-ff"),
      line_length_lem m.ratio (text "old-ratio-0"),
      line_length_lem m.revision (text "revision-4"),
      line_length_lem (not (one_of m)) (text "none"),
    ))

pub printed : (m : Marks) (p q : Page) → length p.out.now ≡ 4096 → p.at ≡ 0 → q ≡ p ▷ marks_lines m
    → (take q.at q.out.now ≡ marks_lines m) × (drop q.at q.out.now ≡ drop q.at p.out.now)
printed m p q l z e = let h = short m in whole (marks_lines m) p q l z (omega arith) e

-- what `marking::listing` ensures leaves one count and one page
pub one_listing : (m : Marks) (out p q : List ℕ) (i j : ℕ) → length p ≡ 4096 → length q ≡ 4096
    → (take i p ≡ marks_lines m) × (drop i p ≡ drop i out) → (take j q ≡ marks_lines m) × (drop j q ≡ drop j out) → (i ≡ j) × (p ≡ q)
one_listing m out p q i j = let h = short m in only (marks_lines m) out p q i j (omega arith)
