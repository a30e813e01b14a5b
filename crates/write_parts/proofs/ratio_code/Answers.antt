-- `write_parts::ratio_code` meets its contract: by what `digit` ensures. Assumes nothing.
use borrow.Author.Rules.{rules}
use Rattle.write_parts.proofs.ratio_code.Goals as goal

pub returns : goal.returns
returns c =
    (rw (c.digit-3.ensures.0, c.digit-2.ensures.0, c.digit.ensures.0), search rules)
