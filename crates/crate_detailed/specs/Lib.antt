-- What the contracts of `crate_detailed` cite.
pub mod Detailed
pub mod Sizes
