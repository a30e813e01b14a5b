-- The crate reading with no value kept.
pub mod Ends
pub mod Answers
pub mod Whole
pub mod Onward
