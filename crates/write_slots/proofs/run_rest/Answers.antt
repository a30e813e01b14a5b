-- `write_slots::run_rest` meets its contract: by what its callees ensure. Assumes nothing.
use Rattle.write_slots.proofs.run_rest.Goals as goal

pub returns : goal.returns
returns c =
    (rw (c.digit-2.ensures.0, c.exact.ensures, c.digit.ensures.0), rw (c.run_bytes-bytes.ensures, c.part.ensures))
