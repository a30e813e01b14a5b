-- The definition of the crate reading, and what holds of its sizes.
pub mod Reading
pub mod Parts
pub mod Answers
pub mod Sizes
