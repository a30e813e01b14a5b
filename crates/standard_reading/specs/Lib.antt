-- The definition of the standard reading, and what it comes to.
pub mod Slots
pub mod Block
pub mod Lists
pub mod Filling
pub mod Judged
pub mod Room
pub mod Entries
pub mod Told
