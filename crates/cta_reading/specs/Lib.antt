-- The definition of the extension's reading, and what it comes to.
pub mod Along
pub mod Cta
pub mod Lists
pub mod Room
pub mod Judged
pub mod Promises
pub mod Cases
