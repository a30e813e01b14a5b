-- The laws that the proofs of `write_parts` cite.
pub mod Tabs
pub mod Again
