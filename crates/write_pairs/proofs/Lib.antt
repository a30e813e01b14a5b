-- The laws that the proofs of `write_pairs` cite.
pub mod Laws
