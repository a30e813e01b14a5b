-- The laws that the proofs of `write_head` cite.
pub mod Flags
