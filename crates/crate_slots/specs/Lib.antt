-- The definition of the slots, what holds of their sizes, and how the code fills its lists.
pub mod Slots
pub mod Sizes
pub mod Filling
