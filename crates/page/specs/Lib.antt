-- What the contracts of `page` cite, and what the proofs of its callers use.
pub mod Page
pub mod Words
pub mod Known
pub mod Laws
pub mod Meaning
pub mod Short
