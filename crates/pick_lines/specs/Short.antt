-- Every answer of `pick` is shorter than a page.
use Rattle.std.specs.Prelude.{ℕ, ◌≤◌, ◌≡◌, List, length, take, drop, Option, None, Some, Ok, Err}
use Rattle.std.proofs.Common.{arith, length-append}
use Rattle.page.specs.declared.Page.{Page}
use Rattle.page.specs.Page.{◌▷◌}
use Rattle.page.specs.Words.{flat}
use Rattle.page.specs.Short.{field_length, field8_length}
use Rattle.page.specs.Meaning.{whole, only}
use Rattle.shared_lines.specs.Short.{refuse_length}
use Rattle.standard_slot_lines.specs.Short.{detailed_length}
use Rattle.standard_record.specs.Lists.{DetailedTimings}
use Rattle.standard_record.specs.Verdict.{Verdict}
use Rattle.standard_reading.specs.Block.{standard_of}
use Rattle.picking.specs.Best.{listed}
use Rattle.picking.specs.Score.{choice}
use Rattle.picking.specs.Entry.{entry}
use Rattle.picking.specs.declared.Limits.{Limits}
use Rattle.picking.specs.Choice.{Choice}
use Rattle.pick_lines.specs.Asked.{asked_in}
use Rattle.pick_lines.specs.Lines.{choice_lines, judged_lines, reading_lines, answer_to, answer}
use Rattle.pick_lines.specs.declared.Asked.{Asked}

choice_length : (l : DetailedTimings) (c : Choice) → length (choice_lines l c) ≤ 201
unfolding choice_lines flat
choice_length l (Ok i) = simp length-append (omega (arith, field_length i, detailed_length (entry l i)))
choice_length l (Err n) = simp length-append (omega (arith, field8_length n))

judged_length : (l : Limits) (ts : DetailedTimings) (v : Verdict) → length (judged_lines l ts v) ≤ 201
judged_length l ts (Ok tt) = choice_length ts (choice l (listed ts))
judged_length l ts (Err f) = omega (arith, refuse_length f)

answer_length : (s : List ℕ) (a : Option Asked) → length (answer_to s a) ≤ 201
unfolding answer_to reading_lines
answer_length s None = omega arith
answer_length s (Some a) =
    let t = standard_of (drop a.block s) in judged_length a.limits t.edid.timings.detailed t.end

pub printed : (s : List ℕ) (p q : Page) → length p.out.now ≡ 4096 → p.at ≡ 0 → q ≡ p ▷ answer s
    → (take q.at q.out.now ≡ answer s) × (drop q.at q.out.now ≡ drop q.at p.out.now)
printed s p q l z e = let h = answer_length s (asked_in s) in whole (answer s) p q l z (omega arith) e

-- what `pick_lines::listing` ensures leaves one count and one page
pub one_answer : (s out p q : List ℕ) (m n : ℕ) → length p ≡ 4096 → length q ≡ 4096
    → (take m p ≡ answer s) × (drop m p ≡ drop m out) → (take n q ≡ answer s) × (drop n q ≡ drop n out) → (m ≡ n) × (p ≡ q)
one_answer s out p q m n = let h = answer_length s (asked_in s) in only (answer s) out p q m n (omega arith)
