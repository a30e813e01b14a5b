-- What the proofs of `register` share.
pub mod Laws
pub mod Layouts
pub mod Promises
