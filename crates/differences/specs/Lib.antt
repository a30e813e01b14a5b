-- The list of differences, and that it is whole.
pub mod Converted
pub mod Unmarked
pub mod Floats
pub mod Along
pub mod Leaves
pub mod Pairs
pub mod Closings
pub mod Timed
pub mod Kinds
pub mod Heads
pub mod Slots
pub mod Parts
pub mod Alone
