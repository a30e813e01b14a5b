-- What the contracts of `crate_head` cite.
pub mod Head
pub mod Sizes
