-- The laws that the proofs of `register_file` cite.
pub mod Chain
pub mod Ended
pub mod Laws
