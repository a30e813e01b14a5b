-- What C is answered of the timing to show, and the lent numbers after it.
use Rattle.std.specs.Prelude.{ℕ, cond, List, ◌++◌, ltb, length, drop, Ok, Err}
use Rattle.standard_record.specs.Lists.{DetailedTimings}
use Rattle.standard_record.specs.Verdict.{Verdict}
use Rattle.standard_record.specs.declared.StandardReading.{StandardReading}
use Rattle.picking.specs.Best.{listed}
use Rattle.picking.specs.Score.{choice}
use Rattle.picking.specs.Entry.{entry}
use Rattle.picking.specs.declared.Limits.{Limits}
use Rattle.picking.specs.Choice.{Choice}
use Rattle.timing_numbers.specs.Numbers.{numbers_of}

-- of a choice: 0 and the timing's numbers, with what was lent behind them, or the refusal and what was lent
abbrev pub shown : DetailedTimings → List ℕ → Choice → ℕ × List ℕ
shown d lent (Ok i) = (0, numbers_of (entry d i).timing ++ drop 14 lent)
shown d lent (Err n) = (n, lent)

-- of a verdict: the reading's refusal comes first
abbrev pub judged : Verdict → List ℕ → ℕ × List ℕ → ℕ × List ℕ
judged (Ok tt) lent a = a
judged (Err f) lent a = (f.number, lent)

abbrev pub pick_of : Limits → StandardReading → List ℕ → ℕ × List ℕ
pick_of l r lent =
    let d = r.edid.timings.detailed in
    cond (ltb (length lent) 14) (10, lent) (judged r.end lent (shown d lent (choice l (listed d))))
