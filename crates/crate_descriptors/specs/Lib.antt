-- What the contracts of `crate_descriptors` cite.
pub mod Descriptors
pub mod Laws
pub mod Sizes
