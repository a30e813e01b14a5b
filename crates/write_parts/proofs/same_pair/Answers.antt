-- `write_parts::same_pair` meets its contract: each variant by what its callee ensures. Assumes nothing.
use Rattle.write_parts.proofs.same_pair.Goals as goal

pub returns-in-Some : goal.returns-in-Some
returns-in-Some c = rw c.in-Some.is c.same_timing.ensures
