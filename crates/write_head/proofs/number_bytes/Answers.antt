-- `write_head::number_bytes` meets its contract: the test by what `digit` ensures. Assumes nothing.
use Rattle.write_head.proofs.number_bytes.Goals as goal

pub returns : goal.returns
returns c =
    record {
      fits = rw (c.digit-2.ensures.0, c.digit.ensures.0, c.between.ensures, c.week_byte-week.ensures.0);
      bytes = λ rest. rw c.week_byte-week.ensures.1;
    }
