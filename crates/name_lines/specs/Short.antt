-- Every line is shorter than a page.
use Rattle.std.specs.Prelude.{ℕ, ◌≤◌, ◌≡◌, List, [], ◌∷◌, length, take, drop, None, Option, Some}
use Rattle.std.proofs.Common.{arith, length-append, length-take, take_all}
use Rattle.page.specs.declared.Page.{Page}
use Rattle.page.specs.Page.{◌▷◌}
use Rattle.page.specs.Words.{text, hex_of2, flat, each}
use Rattle.page.specs.Short.{field_length, byte_length, first_length}
use Rattle.page.specs.Meaning.{whole, only}
use Rattle.naming.specs.Name.{name_of, shown}
use Rattle.naming.specs.Listed.{SoundName, sound_name}
use Rattle.steps.specs.declared.Span.{Span}
use Rattle.name_lines.specs.Lines.{run, name_line, shown_line, answer}

run_length : (name : List ℕ) → length name ≤ 13 → length (run name) ≤ 27
unfolding run flat
run_length [] h = omega arith
run_length (b ∷ bs) h =
    let l : length (each hex_of2 (b ∷ bs)) ≤ 26 = rw (take_all 13 (b ∷ bs) h) at (first_length hex_of2 2 13 byte_length 13 (b ∷ bs)) in
    simp length-append (omega arith)

line_length_lem : (whose : List ℕ) (start : ℕ) (name : List ℕ) → length whose ≤ 9 → length name ≤ 13 → length (name_line whose start name) ≤ 79
unfolding name_line flat
line_length_lem whose start name h k =
    let l = run_length name k in
    simp length-append (omega (arith, field_length start, field_length (length name)))

answer_length : (p q : List ℕ) → length (answer p q) ≤ 79
answer_length p q = go (name_of p) (name_of q) (sound_name p) (sound_name q)
  where
    go : (a b : Option Span) → SoundName p a → SoundName q b → length (shown_line (shown a b) p q) ≤ 79
    go (Some t) b h k = line_length_lem (text "panel") t.start _ (omega arith) (omega (arith, h.0.short, length-take t.len (drop t.start p)))
    go None (Some t) h k = line_length_lem (text "reference") t.start _ (omega arith) (omega (arith, k.0.short, length-take t.len (drop t.start q)))
    go None None h k = omega arith

pub printed : (a b : List ℕ) (p q : Page) → length p.out.now ≡ 4096 → p.at ≡ 0 → q ≡ p ▷ answer a b
    → (take q.at q.out.now ≡ answer a b) × (drop q.at q.out.now ≡ drop q.at p.out.now)
printed a b p q l z e = whole (answer a b) p q l z (omega (arith, answer_length a b)) e

-- what `name_lines::listing` ensures leaves one count and one page
pub one_answer : (p q out o o' : List ℕ) (m n : ℕ) → length o ≡ 4096 → length o' ≡ 4096
    → (take m o ≡ answer p q) × (drop m o ≡ drop m out) → (take n o' ≡ answer p q) × (drop n o' ≡ drop n out) → (m ≡ n) × (o ≡ o')
one_answer p q out o o' m n = only (answer p q) out o o' m n (omega (arith, answer_length p q))
