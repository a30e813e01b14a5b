-- Runs of entries with one number, the bytes of a run of pairs, and laws of them.
pub mod Run
pub mod Pairs
pub mod Laws
pub mod Again
