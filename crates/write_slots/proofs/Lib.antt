-- The laws that the proofs of `write_slots` cite.
pub mod Runs
