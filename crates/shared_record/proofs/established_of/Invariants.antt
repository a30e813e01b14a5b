-- `shared_record::established_of` meets its contract: the list holds the flags passed. Assumes nothing.
use Rattle.bits.specs.Fields.{bit}
use Rattle.shared_record.specs.Walk.{Walked}
use Rattle.shared_record.proofs.established_of.Given as goal

abbrev pub invariant-loop-k : goal.invariant-loop-k
invariant-loop-k l = Walked (bit l.low) l.k l.flags.items l.flags.len
