-- What several proofs of `frames` cite.
pub mod Known
pub mod Run
