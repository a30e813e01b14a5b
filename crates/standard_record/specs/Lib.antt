-- What the contracts of the standard reading say of its record.
pub mod Filler
pub mod Held
pub mod Lists
pub mod Seen
pub mod Verdict
