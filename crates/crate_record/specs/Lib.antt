-- What the contracts of the crate reading say of its record.
pub mod Single
pub mod Known
pub mod Filler
pub mod Lists
pub mod Seen
