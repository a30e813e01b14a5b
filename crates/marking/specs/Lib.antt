-- The marks of a block, and the words that list them.
pub mod Marks
pub mod Lines
pub mod Laws
pub mod Short
pub mod Known
