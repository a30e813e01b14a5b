-- The laws that the proofs of `standard_writing` cite.
pub mod Laws
