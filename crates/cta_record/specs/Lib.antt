-- What the contracts of the extension's reading say of its record.
pub mod Filler
pub mod Lists
pub mod Seen
