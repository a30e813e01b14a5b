-- What an answer of `pick` means: four cases, in the words of the order.
use Rattle.std.specs.Prelude.{ℕ, ◌≡◌, List, [], ◌∷◌, drop, Option, None, Some, Ok, Err}
use Rattle.std.proofs.Math.Path.{refl}
use Rattle.page.specs.Words.{text, newline, field, decimal_in, field8, flat}
use Rattle.steps.specs.declared.Refusal.{Refusal}
use Rattle.shared_lines.specs.Lines.{refuse_line}
use Rattle.standard_slot_lines.specs.Lines.{detailed_line}
use Rattle.standard_record.specs.Verdict.{Verdict}
use Rattle.standard_record.specs.Lists.{DetailedTimings}
use Rattle.standard_reading.specs.Block.{standard_of}
use Rattle.picking.specs.Best.{Best, NoneQualifies, Chooses, listed}
use Rattle.picking.specs.Score.{choice, chooses}
use Rattle.picking.specs.Entry.{entry, its_timing}
use Rattle.picking.specs.declared.Limits.{Limits}
use Rattle.picking.specs.Choice.{Choice}
use Rattle.pick_lines.specs.Asked.{asked_in}
use Rattle.pick_lines.specs.Lines.{bad_line, choice_lines, judged_lines, reading_lines, answer_to, answer}
use Rattle.pick_lines.specs.declared.Asked.{Asked}

-- what is printed of a block's timings and its verdict; the entry at an index is a timing with its slot
pub data Prints (l : Limits) (d : DetailedTimings) (v : Verdict) : List ℕ → Type 0 where
  unread : (f : Refusal) → v ≡ Err f → Prints l d v (refuse_line f)
  none : v ≡ Ok tt → NoneQualifies l (listed d) → Prints l d v (text "refuse 14\n")
  best : (i : ℕ) (b : Best l (listed d) i) → v ≡ Ok tt → (entry d i).timing ≡ b.timing
      → Prints l d v (flat (text "pick" ∷ field i ∷ newline ∷ detailed_line (entry d i) ∷ []))

-- of all that is asked
pub data Says (s : List ℕ) : List ℕ → Type 0 where
  bad_line_lem : asked_in s ≡ None → Says s bad_line
  good_line : (l : Limits) (block : ℕ) (a : List ℕ) → asked_in s ≡ Some (record { limits = l; block = block })
      → (let r = standard_of (drop block s) in Prints l r.edid.timings.detailed r.end a) → Says s a

module _ (l : Limits) (d : DetailedTimings) where
  by_choice : (c : Choice) → Chooses l (listed d) c → Prints l d (Ok tt) (choice_lines d c)
  unfolding choice_lines flat field8 decimal_in
  by_choice (Ok i) b = best i b refl (its_timing l d i b)
  by_choice (Err n) c = rw c.0 (none refl c.1)

  by_verdict : (v : Verdict) → Prints l d v (judged_lines l d v)
  by_verdict (Ok tt) = by_choice (choice l (listed d)) (chooses l (listed d))
  by_verdict (Err f) = unread f refl

pub says : (s : List ℕ) → Says s (answer s)
unfolding answer_to reading_lines
says s = by (asked_in s) refl
  where
    by : (a : Option Asked) → asked_in s ≡ a → Says s (answer_to s a)
    by None e = bad_line_lem e
    by (Some a) e =
        let r = standard_of (drop a.block s) in
        good_line a.limits a.block (reading_lines a.limits r) e (by_verdict a.limits r.edid.timings.detailed r.end)
