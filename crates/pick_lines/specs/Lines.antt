-- What the program `pick` prints, byte for byte.
use Rattle.std.specs.Prelude.{ℕ, List, [], ◌∷◌, drop, Option, None, Some, Ok, Err}
use Rattle.page.specs.Words.{text, newline, field, field8, flat}
use Rattle.shared_lines.specs.Lines.{refuse_line}
use Rattle.standard_slot_lines.specs.Lines.{detailed_line}
use Rattle.standard_record.specs.Lists.{DetailedTimings}
use Rattle.standard_record.specs.Verdict.{Verdict}
use Rattle.standard_record.specs.declared.StandardReading.{StandardReading}
use Rattle.standard_reading.specs.Block.{standard_of}
use Rattle.picking.specs.Best.{listed}
use Rattle.picking.specs.Score.{choice}
use Rattle.picking.specs.Entry.{entry}
use Rattle.picking.specs.declared.Limits.{Limits}
use Rattle.picking.specs.Choice.{Choice}
use Rattle.pick_lines.specs.Asked.{asked_in}
use Rattle.pick_lines.specs.declared.Asked.{Asked}

-- the index, and the timing's line as in the standard listing; or the refusal
unfoldable pub choice_lines : DetailedTimings → Choice → List ℕ
choice_lines l (Ok i) = flat (text "pick" ∷ field i ∷ newline ∷ detailed_line (entry l i) ∷ [])
choice_lines l (Err n) = flat (text "refuse" ∷ field8 n ∷ newline ∷ [])

abbrev pub judged_lines : Limits → DetailedTimings → Verdict → List ℕ
judged_lines l ts (Ok tt) = choice_lines ts (choice l (listed ts))
judged_lines l ts (Err f) = refuse_line f

unfoldable pub reading_lines : Limits → StandardReading → List ℕ
reading_lines l t = judged_lines l t.edid.timings.detailed t.end

abbrev pub bad_line : List ℕ
bad_line = text "limits: the first line has to be three decimal numbers with one space between, as 165000000 1920 1200: the highest clock in Hz, the most pixels across, the most lines; at most 4294967295 65535 65535\n"

-- the block is what follows the first line
unfoldable pub answer_to : List ℕ → Option Asked → List ℕ
answer_to s None = bad_line
answer_to s (Some a) = reading_lines a.limits (standard_of (drop a.block s))

abbrev pub answer : List ℕ → List ℕ
answer s = answer_to s (asked_in s)
