-- `write_head::all_fit` meets its contract, by what `digit` ensures. Assumes nothing.
use Rattle.write_head.proofs.all_fit.Goals as goal

pub returns : goal.returns
returns c =
    rw (
      c.digit-9.ensures.0,
      c.digit-8.ensures.0,
      c.digit-7.ensures.0,
      c.digit-6.ensures.0,
      c.digit-5.ensures.0,
      c.digit-4.ensures.0,
      c.digit-3.ensures.0,
      c.digit-2.ensures.0,
      c.digit.ensures.0,
    )
