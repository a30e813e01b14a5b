-- What the contracts of `crate_text` cite.
pub mod Text
pub mod Laws
pub mod Sizes
